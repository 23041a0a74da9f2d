-- How far a row of origins goes on naming a segment, or not: place by place, as the loop counts it, and what the code reads there. Assumes nothing.
use mathlib.Core.Path.{◌≡◌, refl, sym, ap, subst}
use mathlib.Core.List.{List, [], ◌∷◌}
use mathlib.Core.Bool.{Bool, true, false, not, cond}
use Prim.Native.Nat.{ℕ, suc, ◌+◌, ◌/◌, ◌≤◌}
use native.Mathlib.Omega.{arith}
use borrow.Author.Tests.{ltb-false}
use lib.Dec.{eqb}
use Rattle.std.specs.Prelude.{nat_lt, Some, None}
use Rattle.std.specs.Option.{unwrap_or}
use Rattle.std.specs.List.{position, position_or_len}
use Rattle.std.proofs.lemmas.List.Recursion.{is_position_or_len}
use lib.ListN.{length}
use Rattle.moves.specs.declared.Origin.{Origin}
use Rattle.moves.specs.Origins.{origin_of, origins_in}
use Rattle.moves.proofs.Origins.{origins-length, segment-half}
use Rattle.part.specs.Part.{naming, front}

module _ (b : Bool) (s : ℕ) where
  pub front_on : (o : Origin) (os : List Origin) → naming b s o ≡ true → front b s (o ∷ os) ≡ suc (front b s os)
  unfolding front
  front_on o os h = subst (λ (t : Bool). elim t as (λ _. ℕ) [ true ↦ suc (front b s os) | false ↦ 0 ] ≡ suc (front b s os)) (sym h) refl

  pub front-stop : (o : Origin) (os : List Origin) → naming b s o ≡ false → front b s (o ∷ os) ≡ 0
  unfolding front
  front-stop o os h = subst (λ (t : Bool). ◌≡◌ {A = ℕ} (elim t as (λ _. ℕ) [ true ↦ suc (front b s os) | false ↦ 0 ]) 0) (sym h) refl

  pub front-most : (os : List Origin) → front b s os ≤ length os
  unfolding front
  front-most [] = omega arith
  front-most (o ∷ os) = by (naming b s o) refl (front-most os)
    where
      by : (t : Bool) → naming b s o ≡ t → front b s os ≤ length os → front b s (o ∷ os) ≤ suc (length os)
      by true h i = rw (front_on o os h) (omega arith)
      by false h i = rw (front-stop o os h) (omega arith)

  -- ---- as the code counts it

  abbrev pub other : ℕ → Bool
  other c = not (naming b s (origin_of c))

  none : front b s (origins_in []) ≡ 0
  unfolding front origins_in
  none = refl

  next : (c : ℕ) (cs : List ℕ) → front b s (origins_in (c ∷ cs)) ≡ cond (other c) 0 (1 + front b s (origins_in cs))
  unfolding origins_in
  next c cs = by (naming b s (origin_of c)) refl
    where
      by : (t : Bool) → naming b s (origin_of c) ≡ t → front b s (origin_of c ∷ origins_in cs) ≡ cond (not t) 0 (1 + front b s (origins_in cs))
      by true h = rw (front_on (origin_of c) (origins_in cs) h) (omega arith)
      by false h = front-stop (origin_of c) (origins_in cs) h

  in_front : (cs : List ℕ) → front b s (origins_in cs) ≡ position_or_len other cs
  in_front = is_position_or_len (λ cs. front b s (origins_in cs)) other none next

  pub front-first : (cs : List ℕ) → unwrap_or (position other cs) (length cs) ≡ front b s (origins_in cs)
  front-first cs = by (nat_lt (position_or_len other cs) (length cs)) refl
    where
      by : (t : Bool) → nat_lt (position_or_len other cs) (length cs) ≡ t → unwrap_or (cond t (Some (position_or_len other cs)) None) (length cs) ≡ front b s (origins_in cs)
      by true h = sym (in_front cs)
      by false h =
          let l = ltb-false (position_or_len other cs) (length cs) h in
          omega (arith, in_front cs, front-most (origins_in cs), origins-length cs)

-- ---- what the code reads

-- half of an origin's number is its segment's
module _ (s c : ℕ) where
  pub named : (b : Bool) → b ≡ true → eqb (c / 2) s ≡ naming b s (origin_of c)
  unfolding naming
  named true h = ap (λ (k : ℕ). eqb k s) (sym (segment-half c))
  named false h = let z : true ≡ false = sym h in cc

  pub unnamed : (b : Bool) → b ≡ false → not (eqb (c / 2) s) ≡ naming b s (origin_of c)
  unfolding naming
  unnamed true h = let z : true ≡ false = h in cc
  unnamed false h = ap (λ (k : ℕ). not (eqb k s)) (sym (segment-half c))
