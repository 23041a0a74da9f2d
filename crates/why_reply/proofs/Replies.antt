-- What the code has of the bytes after `decode`, and the two texts of an answer. Assumes nothing.
use mathlib.Core.Path.{◌≡◌, refl, sym, ap, ◌∙◌}
use mathlib.Core.Bool.{false}
use mathlib.Core.List.{List}
use Rattle.std.specs.Prelude.{Option, Some, None}
use Prim.Native.Nat.{ℕ, ◌*◌, ◌-◌, ◌<◌}
use native.Mathlib.Omega.{arith}
use borrow.Author.Tests.{eq-eqb, ne_eqb}
use lib.ListN.{length, take, drop, length-drop}
use lib.Seq.{take_all}
use lib.Ieee.{Float}
use Rattle.std.specs.Prelude.{Result}
use Rattle.floats.proofs.Choice.{yes, no}
use Rattle.words.specs.Words.{big_endian}
use Rattle.refusals.specs.declared.Refusal.TheVariants as Refused
use Rattle.refusals.specs.Table.{number_of, place_of}
use Rattle.segments.specs.declared.Corners.{Corners}
use Rattle.source.specs.Source.{rows}
use Rattle.packed.specs.declared.unpacked.Form.TheVariants.{Either}
use Rattle.packed.specs.declared.unpacked.PackedJob.{PackedJob}
use Rattle.packed.specs.Packed.{well_formed, packed_of, decoded, job_in, corners_in, decoded_of}
use Rattle.packed.specs.Text.{refusal_of, told_of}
use Rattle.packed.proofs.Bytes.{too_short, decoded-none, decoded_well, decoded_job, decoded-numbers}
use Rattle.why.specs.declared.WhyNumbers.{WhyNumbers}
use Rattle.why.specs.Why.{why_of, numbers_of}
use Rattle.why_reply.specs.WhyReply.{telling_text, packed_answer, packed_reply, why_reply_of}
use Rattle.refusals.specs.declared.Refusal.{Refusal}
use Rattle.why.specs.declared.Telling.{Telling}

abbrev pub malformed_text : List ℕ
malformed_text = refusal_of (number_of Refused.Malformed) (place_of Refused.Malformed)

-- no job, whatever is asked
pub none : (bytes : List ℕ) (k : ℕ) → well_formed (job_in Either bytes) ≡ false → packed_reply bytes k ≡ malformed_text
unfolding packed_reply
none bytes k w = sym (no _ _ _ w refl)

-- four bytes are not there, and so no job
pub cut_short : (bytes : List ℕ) → length bytes < 4 → why_reply_of bytes ≡ malformed_text
unfolding why_reply_of
cut_short bytes h = none (drop 4 bytes) (big_endian bytes 0 4) (too_short (drop 4 bytes) Either (omega (arith, length-drop 4 bytes)))

-- the code's part of the bytes, and its number
pub asked : (bytes : List ℕ) {k : ℕ} → k ≡ big_endian bytes 0 4 → why_reply_of bytes ≡ packed_reply (take (length bytes - 4) (drop 4 bytes)) k
unfolding why_reply_of
asked bytes e =
    let n = length-drop 4 bytes in
    rw (e, take_all (length bytes - 4) (drop 4 bytes) (omega arith))

-- ---- after `decode`

module _ (bytes : List ℕ) (old : List Float) {p : Option PackedJob} {s : List Float} (e : decoded p s ≡ decoded_of Either bytes old) (k : ℕ) where
  abbrev job : List ℕ
  job = job_in Either bytes

  abbrev corners : Corners
  corners = corners_in Either bytes

  pub refused : p ≡ None → packed_reply bytes k ≡ malformed_text
  refused m = none bytes k (decoded-none job corners old e m)

  pub worked : {j : PackedJob} → p ≡ Some j → packed_reply bytes k ≡ telling_text (numbers_of (why_of (rows (take (3 * j.vertices) s)) j.closed j.settings k))
  unfolding packed_reply packed_answer packed_of
  worked is = sym (yes _ _ _ (decoded_well job corners old e is) (rw (decoded-numbers job corners old e is, decoded_job job corners old e is)))

-- ---- the texts

module _ {w a : Result Telling Refusal} {n : WhyNumbers} (answered : a ≡ w) (numbered : n ≡ numbers_of a) where
  is : n ≡ numbers_of w
  is = numbered ∙ ap numbers_of answered

  pub told_text : n.number ≡ 0
      → telling_text (numbers_of w) ≡ told_of n.number n.place n.connector n.source n.reason n.start_rule n.end_rule n.start_param n.end_param
  unfolding telling_text
  told_text z = rw (← is) (sym (yes _ _ _ (eq-eqb _ _ z) refl))

  pub refusal-text : (n.number ≡ 0 → ⊥) → telling_text (numbers_of w) ≡ refusal_of n.number n.place
  unfolding telling_text
  refusal-text z = rw (← is) (sym (no _ _ _ (ne_eqb _ _ z) refl))
