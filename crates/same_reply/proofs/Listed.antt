-- How long the list of a comparison is. Assumes nothing.
use mathlib.Core.Path.{◌≡◌, refl, sym, ap, ◌∙◌}
use mathlib.Core.List.{List, [], ◌∷◌}
use mathlib.Core.Bool.{Bool, true, false}
use Prim.Native.Nat.{ℕ, zero, suc, ◌≤◌}
use native.Mathlib.Omega.{arith}
use borrow.Author.Tests.{not-false}
use lib.ListN.{length, length-append, length-replicate}
use Rattle.std.specs.Prelude.{Result}
use Rattle.floats.specs.Choice.{when◌give◌else◌}
use Rattle.refusals.specs.declared.Refusal.{Refusal}
use Rattle.segments.specs.declared.PlineVertex.{PlineVertex}
use Rattle.compare.specs.Compare.{Output, Outcome, outcome, points_of, any_of, fields_at, entries_for, entries_to, shared, list_of, listing, compare_of, differences_of}
use Rattle.compare.specs.declared.Fields.{Fields}
use Rattle.compare.specs.declared.Differences.{Differences}
use Rattle.compare.proofs.Answers.{fits}
use Rattle.same_reply.specs.Same.{differences_text, outcome_text, blank}

by_test : {X : Type 0} (P : X → Type 0) (t : Bool) {x y : X} → (t ≡ true → P x) → (t ≡ false → P y) → P (when t give x else y)
unfolding when◌give◌else◌
by_test P true p q = p refl
by_test P false p q = q refl

-- it fits the buffers, or nothing is told
module _ (a b : Output) (numbers fields : List ℕ) where
  abbrev Fits : Outcome → Type 0
  Fits o = (differences_of o.answer).listed ≤ length numbers

  pub listed-fits : (differences_of (compare_of a b numbers fields).answer).listed ≤ length numbers
  unfolding compare_of listing
  listed-fits =
      by_test Fits _ (λ _. omega arith) (λ _.
      by_test Fits _ (λ _. omega arith) (λ _.
      by_test Fits _ (λ _. omega arith) (λ _.
      by_test Fits _ (λ _. omega arith) (λ _.
      by_test Fits _ (λ _. omega arith) (λ h. (fits (length (list_of a b)) (length numbers) (length fields) (not-false _ h)).0)))))

-- it has at most an entry for each vertex that both outputs have
entry-most : (k : ℕ) (f : Fields) → length (entries_for k f) ≤ 1
unfolding entries_for
entry-most k f = by_test (λ es. length es ≤ 1) (any_of f) {x = record { number = k; fields = f } ∷ []} {y = []} (λ _. omega arith) (λ _. omega arith)

entries_most : (vs : List PlineVertex) (fs : List ℕ) (ws : List PlineVertex) (gs : List ℕ) (k : ℕ) → length (entries_to vs fs ws gs k) ≤ k
unfolding entries_to
entries_most vs fs ws gs zero = omega arith
entries_most vs fs ws gs (suc k) =
    let h = entries_most vs fs ws gs k in
    let m = entry-most k (fields_at vs fs ws gs k) in
    rw length-append (omega arith)

shared-most : (v w : ℕ) → shared v w ≤ v
unfolding shared
shared-most v w = omega arith

pub listed-most : (a b : Output) → length (list_of a b) ≤ length (points_of a)
unfolding list_of
listed-most a b =
    let most = shared (length (points_of a)) (length (points_of b)) in
    omega (arith, entries_most (points_of a) a.flags (points_of b) b.flags most, shared-most (length (points_of a)) (length (points_of b)))

-- ---- as the code compares

module _ (a b : Output) {answer : Result Differences Refusal} {numbers fields : List ℕ} (made : outcome answer numbers fields ≡ compare_of a b blank blank) {d : Differences} (told : d ≡ differences_of answer) where
  pub few-listed : d.listed ≤ 12288
  few-listed =
      let z = length-replicate {A = ℕ} 12288 0 in
      let e : d.listed ≡ (differences_of (compare_of a b blank blank).answer).listed = ap (λ x. x.listed) told ∙ ap (λ o. (differences_of o.answer).listed) made in
      omega (arith, listed-fits a b blank blank)

  pub compared_text : outcome_text (compare_of a b blank blank) ≡ differences_text d numbers fields
  unfolding outcome_text
  compared_text = sym (ap outcome_text made) ∙ rw (sym told)
