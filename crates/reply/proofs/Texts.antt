-- What the code's two texts are of a job: what is asked, where it is done, and else the refusal. A packed job never has more than 1536 vertices to print. Assumes nothing.
use mathlib.Core.Path.{◌≡◌, sym, ap, ◌∙◌}
use mathlib.Core.Bool.{Bool}
use mathlib.Core.List.{List}
use Prim.Native.Nat.{ℕ, ◌*◌, ◌≤◌}
use native.Mathlib.Omega.{arith}
use borrow.Author.Tests.{eq-eqb, ne_eqb}
use lib.ListN.{length}
use lib.Ieee.{Float}
use Rattle.std.specs.Prelude.{Result, Ok, Err}
use Rattle.refusals.specs.declared.Refusal.{Refusal}
use Rattle.segments.specs.declared.Corners.{Corners}
use Rattle.segments.specs.declared.Corners.TheVariants.{Round, Pointed}
use Rattle.segments.specs.declared.Settings.{Settings}
use Rattle.floats.proofs.Choice.{yes, no}
use Rattle.source.specs.Source.{rows, segments_of}
use Rattle.source.proofs.Source.{length-vertices}
use Rattle.source.proofs.Segments.{segments-most}
use Rattle.moves.specs.declared.Origin.{Origin}
use Rattle.moves.specs.declared.RawOffsetResult.{RawOffsetResult}
use Rattle.sheet.specs.Buffers.{Buffers}
use Rattle.sheet.proofs.Products.{product_most}
use Rattle.job.specs.Job.{Outcome, result_in, ending, job_of}
use Rattle.refusals.specs.Table.{number, number_of, place_of}
use Rattle.refusals.proofs.Table.{some_number}
use Rattle.walk.specs.Walk.{moves_a_segment}
use Rattle.job.specs.Rows.{Job, count, places}
use Rattle.job.proofs.Fits.{vertices-fit}
use Rattle.packed.specs.Text.{refusal_of, text_of, origins_text, printed}
use Rattle.packed.proofs.Lines.{printed-text}
use Rattle.reply.specs.declared.Asked.{Asked}
use Rattle.reply.specs.declared.Asked.TheVariants.{Drawing, Origins}
use Rattle.reply.specs.Reply.{blank, numbers_in, done_text, answer_text}

-- ---- what is printed of a job that is done

module _ (r : RawOffsetResult) (vertices : List Float) (flags : List ℕ) (origins : List Origin) (few : r.vertices ≤ 1536) where
  pub drawing-printed : printed r.vertices (text_of r.vertices r.closed vertices flags) ≡ done_text Drawing r vertices flags origins
  unfolding done_text
  drawing-printed = sym (printed-text _ _ few)

  pub origins-printed : {n : ℕ} → n ≡ segments_of r.closed r.vertices → printed n (origins_text n origins) ≡ done_text Origins r vertices flags origins
  unfolding done_text
  origins-printed {n} e =
      let most = segments-most r.closed r.vertices in
      sym (printed-text n (origins_text n origins) (omega arith)) ∙ rw e

-- ---- a job, and its answer

-- the job over blank buffers
abbrev pub blank_job : List Float → Bool → Settings → Job
blank_job s closed σ = record { source = rows s; closed = closed; settings = σ; buffers = blank }

-- three places a vertex are enough in either mode
pub places-most : (j : Job) → places j ≤ 3 * count j
places-most j =
    let n = segments_of j.closed (count j) in
    let p = product_most (moves_a_segment j.settings.corners) 3 n (three-most j.settings.corners) in
    omega (arith, p, segments-most j.closed (count j))
  where
    three-most : (c : Corners) → moves_a_segment c ≤ 3
    three-most Round = omega arith
    three-most (Pointed ratio) = omega arith

module _ (s : List Float) (closed : Bool) (σ : Settings) where
  module _ {a : Result RawOffsetResult Refusal} {b : Buffers} (ends : ending a b ≡ job_of (rows s) closed σ blank) where
    module _ {r : RawOffsetResult} (is : a ≡ Ok r) where
      kept : r ≡ result_in a
      kept = ap (λ (x : Result RawOffsetResult Refusal). result_in x) (sym is)

      pub few-printed : length s ≤ 1536 → r.vertices ≤ 1536
      few-printed h =
          let f = vertices-fit (blank_job s closed σ) in
          let m = places-most (blank_job s closed σ) in
          let l = length-vertices s in
          rw (kept, ap (λ (o : Outcome). o.answer) ends) (omega arith)

      pub done-text : (asked : Asked) → answer_text asked (job_of (rows s) closed σ blank) ≡ done_text asked r (numbers_in b.vertices) b.flags b.origins
      unfolding answer_text
      done-text asked =
          let told = ap (λ (o : Outcome). number o.answer) (sym ends) ∙ ap (λ (x : Result RawOffsetResult Refusal). number x) is in
          sym (yes _ _ _ (eq-eqb _ _ told) (rw (← ends, kept)))

    pub refusal-text : {r : Refusal} → a ≡ Err r → (asked : Asked) → answer_text asked (job_of (rows s) closed σ blank) ≡ refusal_of (number_of r) (place_of r)
    unfolding answer_text
    refusal-text {r} is asked =
        let told = ap (λ (o : Outcome). o.answer) (sym ends) ∙ is in
        let not_done : number (job_of (rows s) closed σ blank).answer ≡ 0 → ⊥ = λ q. some_number r (ap (λ (x : Result RawOffsetResult Refusal). number x) (sym told) ∙ q) in
        sym (no _ _ _ (ne_eqb _ _ not_done) (rw told))
