-- What the code has of the bytes after `decode`: a job, whose answer is the reply, or none; and which form the bytes have where either may come. Assumes nothing.
use mathlib.Core.Path.{◌≡◌, refl, sym}
use mathlib.Core.Bool.{true}
use mathlib.Core.List.{List}
use Rattle.std.specs.Prelude.{Option, Some, None}
use Prim.Native.Nat.{ℕ, ◌*◌}
use lib.ListN.{take, drop}
use lib.Ieee.{Float}
use Rattle.floats.proofs.Choice.{yes, no}
use Rattle.refusals.specs.declared.Refusal.TheVariants.{Malformed}
use Rattle.refusals.specs.Table.{number_of, place_of}
use Rattle.source.specs.Source.{rows}
use Rattle.job.specs.Job.{job_of}
use Rattle.packed.specs.declared.unpacked.PackedJob.{PackedJob}
use Rattle.packed.specs.declared.unpacked.Form.{Form}
use Rattle.packed.specs.declared.unpacked.Form.TheVariants.{Round, Pointed, Either}
use Rattle.packed.specs.Packed.{well_formed, packed_of, decoded, decoded_of, job_in, corners_in}
use Rattle.packed.specs.Text.{refusal_of}
use Rattle.packed.proofs.Bytes.{decoded-none, decoded_well, decoded_job, decoded-numbers, without_ratio, with-ratio, never_pointed, never_round}
use Rattle.reply.specs.Reply.{blank, answer_text, outcome_of, reply_by}
use Rattle.reply.specs.declared.Asked.{Asked}

module _ (asked : Asked) (form : Form) (bytes : List ℕ) (old : List Float) {p : Option PackedJob} {s : List Float} (e : decoded p s ≡ decoded_of form bytes old) where
  pub refused : p ≡ None → reply_by asked form bytes ≡ refusal_of (number_of Malformed) (place_of Malformed)
  unfolding reply_by
  refused m = sym (no _ _ _ (decoded-none (job_in form bytes) (corners_in form bytes) old e m) refl)

  pub worked : {j : PackedJob} → p ≡ Some j → reply_by asked form bytes ≡ answer_text asked (job_of (rows (take (3 * j.vertices) s)) j.closed j.settings blank)
  unfolding reply_by outcome_of packed_of
  worked is =
      let job = job_in form bytes in
      let corners = corners_in form bytes in
      sym (yes _ _ _ (decoded_well job corners old e is) (rw (decoded-numbers job corners old e is, decoded_job job corners old e is)))

-- where either may come, a packed job is answered as one, and a pointed one as that
module _ (asked : Asked) (bytes : List ℕ) where
  pub either_round : well_formed bytes ≡ true → reply_by asked Either bytes ≡ reply_by asked Round bytes
  unfolding reply_by
  either_round w =
      let e = without_ratio Either bytes (never_pointed bytes w) in
      let r = without_ratio Round bytes refl in
      rw (e.0, e.1, r.0, r.1)

  pub either_pointed : well_formed (drop 8 bytes) ≡ true → reply_by asked Either bytes ≡ reply_by asked Pointed bytes
  unfolding reply_by
  either_pointed w =
      let e = with-ratio Either bytes (never_round bytes w) in
      let r = with-ratio Pointed bytes refl in
      rw (e.0, e.1, r.0, r.1)
