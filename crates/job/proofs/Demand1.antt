-- Demand 1, of every job: each refusal is given exactly when its row of 01 §1 holds, and leaves what that table says. Assumes nothing.
use mathlib.Core.Path.{◌≡◌, refl, sym, subst}
use mathlib.Core.List.{List, [], ◌∷◌}
use Prim.Native.Nat.{ℕ, ◌≤◌}
use native.Mathlib.Omega.{arith}
use borrow.Author.Tests.{eq-eqb, leb-true, leb-false}
use lib.Dec.{leb}
use lib.ListN.{get_or, get_or-eq_default}
use Rattle.std.specs.Prelude.{Err, Ok, Result}
use Rattle.floats.proofs.Choice.{yes}
use Rattle.refusals.specs.declared.Refusal.{Refusal}
use Rattle.refusals.specs.declared.Refusal.TheVariants.{Ragged, TooMany, BadNumber, NoRoom, Repeated, NotFinite, Malformed, NoSuchSegment, NoOpenJob, NoSuchSourceSegment}
use Rattle.refusals.specs.Table.{number_of, place_of}
use Rattle.refusals.proofs.First.{by_test}
use Rattle.moves.specs.Drawing.{nothing, empty_result}
use Rattle.sheet.specs.Buffers.{Buffers, shown}
use Rattle.moves.specs.declared.RawOffsetResult.{RawOffsetResult}
use Rattle.job.specs.Verdict.{Verdict, refused, drawn}
use Rattle.job.specs.Job.{result_in, after_refusal, placed}
use Rattle.refusals.specs.Table.{number, place}
use Rattle.job.specs.Rows.{Job, outcome, places, Given, Row1, Row2, Row3, Row4, Row5, Row6}
use Rattle.job.specs.Demand1.{Accepted, Demand1}
use Rattle.job.proofs.Ways.{as_was, Way, ragged, many, bad, few, tight, copy, repeated, endless, whole, reached, leads_to, ends, way}

-- ---- what an answer says

placed_at : (r : Refusal) → (number_of r ≡ 3 → ⊥) → (number_of r ≡ 5 → ⊥) → place_of r ≡ 0
placed_at Ragged p q = refl
placed_at TooMany p q = refl
placed_at (BadNumber k) p q = absurd (p refl)
placed_at NoRoom p q = refl
placed_at (Repeated k) p q = absurd (q refl)
placed_at NotFinite p q = refl
placed_at Malformed p q = refl
placed_at NoSuchSegment p q = refl
placed_at NoOpenJob p q = refl
placed_at NoSuchSourceSegment p q = refl

no_place : (a : Result RawOffsetResult Refusal) → (number a ≡ 3 → ⊥) → (number a ≡ 5 → ⊥) → place a ≡ 0
no_place (Ok r) p q = refl
no_place (Err r) p q = placed_at r p q

no-counts : (a : Result RawOffsetResult Refusal) → 1 ≤ number a → result_in a ≡ empty_result
no-counts (Ok r) h = absurd (omega arith)
no-counts (Err r) h = refl

-- ---- what a verdict leaves

module _ (room : ℕ) (old : Buffers) where
  leaves : (v : Verdict) → 1 ≤ number (placed room v old).answer → number (placed room v old).answer ≤ 5 → (placed room v old).buffers ≡ old
  leaves (refused r) h l = as_was r room old (λ e. omega arith)
  leaves (drawn d) h l = absurd (omega arith)

  zeroes : (v : Verdict) → number (placed room v old).answer ≡ 6 → (placed room v old).buffers ≡ shown room nothing old
  unfolding after_refusal
  zeroes (refused r) h = sym (yes _ _ _ (eq-eqb _ _ h) refl)
  zeroes (drawn d) h = absurd (omega arith)

-- ---- what a way says

-- the row of number n at place k; done asks for nothing, and no other number has a row
abbrev rows_at : Job → ℕ → List (Type 0)
rows_at j k = Unit ∷ Row1 j ∷ Row2 j ∷ Row3 j k ∷ Row4 j ∷ Row5 j k ∷ Row6 j ∷ []

abbrev RowAt : Job → ℕ → ℕ → Type 0
RowAt j n k = get_or (rows_at j k) n ⊥

none_other : (j : Job) (n k : ℕ) → RowAt j n k → n ≤ 6
none_other j n k r = by_test (leb n 6) (leb-true n 6) (λ e. absurd (subst (λ X. X) (get_or-eq_default (rows_at j k) ⊥ (leb-false n 6 e)) r))

module _ (j : Job) where
  -- a way's row holds at the number and the place that it gives
  row : (w : Way j) → RowAt j (number (leads_to j w).answer) (place (leads_to j w).answer)
  row (ragged r) = r
  row (many r) = r
  row (bad k r) = r
  row (few n h) = tt
  row (tight r) = r
  row (copy r z) = tt
  row (repeated k r) = r
  row (endless r) = r
  row (whole d f) = tt

  answer-row : RowAt j (number (outcome j).answer) (place (outcome j).answer)
  answer-row = rw (ends j (way j)) at (row (way j))

  given→row : {n k : ℕ} → Given j n k → RowAt j n k
  given→row {n} g = subst (RowAt j n) g.place (subst (λ m. RowAt j m (place (outcome j).answer)) g.number answer-row)

  -- a way gives its own number and place
  gives : (w : Way j) → Given j (number (leads_to j w).answer) (place (leads_to j w).answer)
  gives w = record { number = rw (ends j w); place = rw (ends j w) }

  -- done, by no row
  other : (n : ℕ) {k : ℕ} → 1 ≤ n → Given j 0 0 → Given j n k → ⊥
  other n h g g' = let p = g.number in let q = g'.number in omega arith

  accepted : Given j 0 0 → Accepted j
  accepted g = record {
    one = λ r. other 1 (omega arith) g (gives (ragged r));
    two = λ r. other 2 (omega arith) g (gives (many r));
    three = λ k r. other 3 (omega arith) g (gives (bad k r));
    four = λ r. other 4 (omega arith) g (gives (tight r));
    five = λ k r. other 5 (omega arith) g (gives (repeated k r));
    six = λ r. other 6 (omega arith) g (gives (endless r));
  }

  not-refused : Way j → Accepted j → Given j 0 0
  not-refused (ragged r) a = absurd (a.one r)
  not-refused (many r) a = absurd (a.two r)
  not-refused (bad k r) a = absurd (a.three k r)
  not-refused (few n h) a = gives (few n h)
  not-refused (tight r) a = absurd (a.four r)
  not-refused (copy r z) a = gives (copy r z)
  not-refused (repeated k r) a = absurd (a.five k r)
  not-refused (endless r) a = absurd (a.six r)
  not-refused (whole d f) a = gives (whole d f)

pub demand_1 : (j : Job) → Demand1 j
demand_1 j = record {
  one = (given→row j, λ (r : Row1 j). gives j (ragged r));
  two = (given→row j, λ (r : Row2 j). gives j (many r));
  three = λ (k : ℕ). (given→row j, λ (r : Row3 j k). gives j (bad k r));
  four = (given→row j, λ (r : Row4 j). gives j (tight r));
  five = λ (k : ℕ). (given→row j, λ (r : Row5 j k). gives j (repeated k r));
  six = (given→row j, λ (r : Row6 j). gives j (endless r));
  zero = (accepted j, not-refused j (way j));
  only = none_other j _ _ (answer-row j);
  placeless = no_place (outcome j).answer;
  counts = no-counts (outcome j).answer;
  unchanged = rw (ends j (way j)) at (leaves (places j) j.buffers (reached j (way j)));
  zeroed = rw (ends j (way j)) at (zeroes (places j) j.buffers (reached j (way j)));
}
