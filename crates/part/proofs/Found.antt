-- The part between two places that the loop found, the three answers by their tests, and that a part lies within the flags. Assumes nothing.
use mathlib.Core.Path.{◌≡◌, refl, sym, ap, ◌∙◌, subst}
use mathlib.Core.List.{List}
use mathlib.Core.Bool.{true, false, not}
use Prim.Native.Nat.{ℕ, ◌+◌, ◌≤◌, ◌<◌, min}
use native.Mathlib.Omega.{arith}
use borrow.Author.Tests.{ltb-true, ltb-false, lt-ltb, le-ltb, eq-eqb, ne_eqb, eqb-true}
use lib.Dec.{eqb, ltb}
use lib.ListN.{length, take, drop, length-take, length-drop}
use lib.Seq.{take_all, take-length}
use Rattle.std.specs.Prelude.{Ok, Err}
use Rattle.floats.specs.Choice.{when◌give◌else◌}
use Rattle.floats.proofs.Choice.{yes, no}
use Rattle.refusals.specs.declared.Refusal.TheVariants.{Ragged, NoSuchSourceSegment}
use Rattle.refusals.proofs.First.{by_test}
use Rattle.moves.specs.declared.Origin.{Origin}
use Rattle.part.specs.declared.Bounds.{Bounds}
use Rattle.part.specs.Part.{front, part_at, empty, part_of, part_answer, bounds_of}
use Rattle.part.proofs.Front.{front-most}

-- ---- as the code looks

-- the choice that `part_of` makes
pub as-part : (s : ℕ) (os : List Origin) {start count : ℕ} → start ≡ front false s os → count ≡ front true s (drop start os) → (when eqb count 0 give empty else part_at start count) ≡ part_of s os
unfolding part_of
as-part s os p q = rw (q, p)

-- no more is looked at than there is
pub looked : (os : List Origin) (most n : ℕ) → most ≡ min n 0xffff_ffff → n ≡ length os → take most os ≡ take 0xffff_ffff os
looked os most n p q =
    by_test (ltb n 0xffff_ffff)
    (λ (t : ltb n 0xffff_ffff ≡ true). let h = ltb-true n 0xffff_ffff t in let e : most ≡ length os = omega arith in rw e (take-length os ∙ sym (take_all 0xffff_ffff os (omega arith))))
    (λ (t : ltb n 0xffff_ffff ≡ false). let h = ltb-false n 0xffff_ffff t in let e : most ≡ 0xffff_ffff = omega arith in rw e)

-- ---- the answers

module _ (n flags : ℕ) (os : List Origin) (s : ℕ) where
  pub ragged : (flags ≡ length os → ⊥) → Err Ragged ≡ part_answer n flags os s
  unfolding part_answer
  ragged h = yes _ _ _ (ap not (ne_eqb _ _ h)) refl

  pub none_such : flags ≡ length os → n ≤ s → Err NoSuchSourceSegment ≡ part_answer n flags os s
  unfolding part_answer
  none_such e h = no _ _ _ (ap not (eq-eqb _ _ e)) (yes _ _ _ (ap not (le-ltb s n h)) refl)

  pub found : flags ≡ length os → s < n → {part : Bounds} → part ≡ part_of s (take 0xffff_ffff os) → Ok part ≡ part_answer n flags os s
  unfolding part_answer
  found e h p = no _ _ _ (ap not (eq-eqb _ _ e)) (no _ _ _ (ap not (lt-ltb s n h)) (ap Ok p))

-- ---- within

-- where a part ends
abbrev pub end_of : Bounds → ℕ
end_of part = part.start.0 + part.count

pub part-within : (s : ℕ) (os : List Origin) → end_of (part_of s os) ≤ length os
unfolding part_of
part-within s os =
    let start = front false s os in
    let count = front true s (drop start os) in
    let m = front-most false s os in
    let l = front-most true s (drop start os) in
    let d = length-drop start os in
    by_test (eqb count 0)
    (λ (t : eqb count 0 ≡ true). subst (λ (part : Bounds). end_of part ≤ length os) (yes _ _ _ t refl) (omega arith))
    (λ (t : eqb count 0 ≡ false). subst (λ (part : Bounds). end_of part ≤ length os) (no _ _ _ t refl) (omega arith))

pub answer-within : (n flags : ℕ) (os : List Origin) (s : ℕ) → end_of (bounds_of (part_answer n flags os s)) ≤ flags
unfolding part_answer
answer-within n flags os s =
    by_test (eqb flags (length os))
    (λ (t : eqb flags (length os) ≡ true).
    let e = eqb-true flags (length os) t in
    let l = length-take 0xffff_ffff os in
    let w = part-within s (take 0xffff_ffff os) in
    by_test (ltb s n)
    (λ (u : ltb s n ≡ true). subst (λ a. end_of (bounds_of a) ≤ flags) (no _ _ _ (ap not t) (no _ _ _ (ap not u) refl)) (omega arith))
    (λ (u : ltb s n ≡ false). subst (λ a. end_of (bounds_of a) ≤ flags) (no _ _ _ (ap not t) (yes _ _ _ (ap not u) refl)) (omega arith)))
    (λ (t : eqb flags (length os) ≡ false). subst (λ a. end_of (bounds_of a) ≤ flags) (yes _ _ _ (ap not t) refl) (omega arith))
