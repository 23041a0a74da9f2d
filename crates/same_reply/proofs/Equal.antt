-- Two rows of bytes are the same where `same` says so, and only there. Assumes nothing.
use mathlib.Core.Path.{◌≡◌, refl, sym}
use mathlib.Core.List.{List, [], ◌∷◌}
use mathlib.Core.Bool.{Bool, true, false}
use Prim.Native.Nat.{ℕ}
use borrow.Author.Tests.{eqb-true, eq-eqb}
use lib.Dec.{eqb}
use Rattle.std.specs.Prelude.{◌&&◌}
use Rattle.std.specs.Cmp.Lexicographic.{pointwise}
use Rattle.floats.specs.Choice.{when◌give◌else◌, ◌and◌}
use Rattle.floats.proofs.Choice.{both_pass}
use Rattle.same_reply.specs.Read.{same}

pub same-equal : (xs ys : List ℕ) → same xs ys ≡ true → xs ≡ ys
unfolding same
same-equal [] [] h = refl
same-equal [] (y ∷ ys) h = let z : true ≡ false = sym h in cc
same-equal (x ∷ xs) [] h = let z : true ≡ false = sym h in cc
same-equal (x ∷ xs) (y ∷ ys) h =
    let both = (both_pass (eqb x y) (same xs ys)).0 h in
    let first = eqb-true x y both.0 in
    let rest = same-equal xs ys both.1 in
    cc

same_self : (xs : List ℕ) → same xs xs ≡ true
unfolding same
same_self [] = refl
same_self (x ∷ xs) = (both_pass (eqb x x) (same xs xs)).1 (eq-eqb x x refl, same_self xs)

pub equal-same : (xs ys : List ℕ) → xs ≡ ys → same xs ys ≡ true
equal-same xs ys e = rw e (same_self ys)

-- as std's `==` tells it
both_alike : (b : Bool) {p q : Bool} → p ≡ q → (b && p) ≡ (b and q)
unfolding ◌and◌ when◌give◌else◌
both_alike true e = e
both_alike false e = refl

pub equal_told : (xs ys : List ℕ) → pointwise eqb xs ys ≡ same xs ys
unfolding same
equal_told [] [] = refl
equal_told [] (y ∷ ys) = refl
equal_told (x ∷ xs) [] = refl
equal_told (x ∷ xs) (y ∷ ys) = both_alike (eqb x y) (equal_told xs ys)
