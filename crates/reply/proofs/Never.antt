-- Which numbers `rawoffset`, `rawpointed` and `raworigins` can print. A packed job has three numbers a vertex, at most 512 vertices, and room for all that they draw: Nos. 1, 2 and 4 never come, as
-- answers (`never`) or as texts (`never_printed`). And each program may stop reading a byte after the largest job that it takes (`cut`). Assumes nothing.
use mathlib.Core.Path.{◌≡◌, refl, sym, ◌∙◌}
use mathlib.Core.Bool.{Bool, true, false}
use mathlib.Core.List.{List}
use Prim.Native.Char.{code}
use Prim.Native.Nat.{ℕ, ◌+◌, ◌*◌, ◌≤◌, ◌<◌}
use native.Mathlib.Omega.{arith}
use lib.ListN.{length, get_or, take, replicate}
use Rattle.std.specs.Prelude.{Err, Ok, Result}
use Rattle.refusals.specs.declared.Refusal.{Refusal}
use Rattle.floats.specs.Choice.{when◌give◌else◌}
use Rattle.floats.proofs.Choice.{no}
use Rattle.segments.specs.declared.Corners.{Corners}
use Rattle.refusals.specs.declared.Refusal.TheVariants.{Ragged, TooMany, BadNumber, NoRoom, Repeated, NotFinite, Malformed, NoSuchSegment, NoOpenJob, NoSuchSourceSegment}
use Rattle.refusals.specs.Table.{number_of, place_of}
use Rattle.moves.specs.declared.RawOffsetResult.{RawOffsetResult}
use Rattle.moves.proofs.Origins.{origins-length}
use Rattle.sheet.specs.Buffers.{Buffers}
use Rattle.job.specs.Job.{Outcome, ending}
use Rattle.refusals.specs.Table.{number}
use Rattle.floats.specs.Binary64.{zero}
use Rattle.source.proofs.Source.{length-vertices}
use Rattle.job.specs.Rows.{Job, outcome, count, places, Given, Short, vertices, flags, indexes, origins}
use Rattle.job.proofs.Demand1.{demand_1}
use Rattle.packed.specs.declared.unpacked.Form.{Form}
use Rattle.packed.specs.Packed.{well_formed, count_of, closed_of, source_of, settings_of, job_in, corners_in}
use Rattle.packed.specs.Text.{places_of, decimal_of, head_of, refusal_of, text_of, origins_text}
use Rattle.packed.proofs.Bytes.{length-numbers, few, largest, too_long, cut_by_lem}
use Rattle.reply.specs.declared.Asked.{Asked}
use Rattle.reply.specs.declared.Asked.TheVariants.{Drawing, Origins}
use Rattle.reply.specs.Reply.{numbers_in, done_text, answer_text, outcome_of, reply_by}
use Rattle.reply.proofs.Texts.{blank_job, places-most}

-- ---- as answers

module _ (corners : Corners) (bytes : List ℕ) (well : well_formed bytes ≡ true) where
  abbrev job : Job
  job = blank_job (source_of bytes) (closed_of bytes) (settings_of corners bytes)

  numbers : length (source_of bytes) ≡ 3 * count_of bytes
  unfolding source_of
  numbers = length-numbers bytes (3 * count_of bytes)

  -- a number that has no place
  given : (n : ℕ) → (n ≡ 3 → ⊥) → (n ≡ 5 → ⊥) → number (outcome job).answer ≡ n → Given job n 0
  given n p q e = record { number = e; place = (demand_1 job).placeless (λ z. p (sym e ∙ z)) (λ z. q (sym e ∙ z)) }

  counted : count job ≡ count_of bytes
  counted = let l = length-vertices (source_of bytes) in omega (arith, l, numbers)

  roomy : places job ≤ 1536
  roomy = omega (arith, places-most job, counted, few bytes well)

  never_short : Short job → ⊥
  never_short (vertices h) = omega (arith, roomy, length-vertices (replicate 4608 zero))
  never_short (flags h) = omega (arith, roomy)
  never_short (indexes h) = omega (arith, roomy)
  never_short (origins h) = omega (arith, roomy, origins-length (replicate 1536 0))

  pub never : (number (outcome_of corners bytes).answer ≡ 1 → ⊥) × (number (outcome_of corners bytes).answer ≡ 2 → ⊥) × (number (outcome_of corners bytes).answer ≡ 4 → ⊥)
  unfolding outcome_of
  never = (
    λ e. (demand_1 job).one.0 (given 1 (λ z. omega arith) (λ z. omega arith) e) (omega (arith, numbers)),
    λ e. let r = (demand_1 job).two.0 (given 2 (λ z. omega arith) (λ z. omega arith) e) in omega (arith, r.many, counted, few bytes well),
    λ e. never_short ((demand_1 job).four.0 (given 4 (λ z. omega arith) (λ z. omega arith) e)).short,
  )

  -- a job's number has one digit
  job-number : number (outcome_of corners bytes).answer ≤ 6
  unfolding outcome_of
  job-number = (demand_1 job).only

-- ---- as texts

-- the first byte is the number's digit
done_digit : (asked : Asked) (r : RawOffsetResult) (b : Buffers) → get_or (done_text asked r (numbers_in b.vertices) b.flags b.origins) 0 0 ≡ code "0"
unfolding done_text when◌give◌else◌ text_of head_of origins_text decimal_of places_of
done_digit Drawing r b = refl
done_digit Origins r b = refl

module _ (asked : Asked) where
  digit : (a : Result RawOffsetResult Refusal) (b : Buffers) → number a ≤ 6 → get_or (answer_text asked (ending a b)) 0 0 ≡ code "0" + number a
  unfolding answer_text when◌give◌else◌ refusal_of decimal_of places_of
  digit (Ok r) b h = done_digit asked r b
  digit (Err Ragged) b h = refl
  digit (Err TooMany) b h = refl
  digit (Err (BadNumber k)) b h = refl
  digit (Err NoRoom) b h = refl
  digit (Err (Repeated k)) b h = refl
  digit (Err NotFinite) b h = refl
  digit (Err Malformed) b h = refl
  digit (Err NoSuchSegment) b h = refl
  digit (Err NoOpenJob) b h = absurd (omega arith)
  digit (Err NoSuchSourceSegment) b h = absurd (omega arith)

  module _ (form : Form) (bytes : List ℕ) where
    abbrev pub first_byte : ℕ
    first_byte = get_or (reply_by asked form bytes) 0 0

    abbrev ended : Outcome
    ended = outcome_of (corners_in form bytes) (job_in form bytes)

    first : (well : Bool) → well_formed (job_in form bytes) ≡ well → (n : ℕ) → n < 7 → (well_formed (job_in form bytes) ≡ true → number ended.answer ≡ n → ⊥) → first_byte ≡ code "0" + n → ⊥
    unfolding reply_by when◌give◌else◌ refusal_of decimal_of places_of
    first true w n s never e =
        let d = digit ended.answer ended.buffers (job-number (corners_in form bytes) (job_in form bytes) w) in
        let f = rw w at e in
        never w (omega arith)
    first false w n s never e = let f = rw w at e in omega arith

    pub never_printed : (first_byte ≡ code "1" → ⊥) × (first_byte ≡ code "2" → ⊥) × (first_byte ≡ code "4" → ⊥)
    never_printed = (
      first _ refl 1 (omega arith) (λ w. (never (corners_in form bytes) (job_in form bytes) w).0),
      first _ refl 2 (omega arith) (λ w. (never (corners_in form bytes) (job_in form bytes) w).1),
      first _ refl 4 (omega arith) (λ w. (never (corners_in form bytes) (job_in form bytes) w).2),
    )

-- ---- where the programs stop reading

-- a byte more than the largest job is enough to refuse what is longer: 12307 bytes, and 12315 where a ratio may come
module _ (asked : Asked) (form : Form) where
  none : (bytes : List ℕ) → largest form < length bytes → reply_by asked form bytes ≡ refusal_of (number_of Malformed) (place_of Malformed)
  unfolding reply_by
  none bytes h = sym (no _ _ _ (too_long bytes form h) refl)

  pub cut : (bytes : List ℕ) → reply_by asked form (take (largest form + 1) bytes) ≡ reply_by asked form bytes
  cut bytes = cut_by_lem (largest form) (reply_by asked form) (refusal_of (number_of Malformed) (place_of Malformed)) none bytes
