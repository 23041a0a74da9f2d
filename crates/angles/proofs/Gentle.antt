-- A quotient of a number and one that is no smaller in size is not above 1, and so no slope is. Assumes nothing.
use mathlib.Core.Path.{◌≡◌, refl, sym, subst}
use mathlib.Core.Bool.{Bool, true, false, not, false≢true}
use Prim.Native.Nat.{ℕ, zero, suc, ◌*◌, ◌≤◌, ◌<◌}
use native.Mathlib.Nat.{mul-pos}
use native.Mathlib.Omega.{arith}
use borrow.Author.Tests.{ne_eqb}
use lib.Dec.{T, eqb}
use lib.IntN.{ℤ}
use lib.Ieee.Bits.{is_true}
use lib.Ieee.{Float, nan, inf, fin, binary64, up, down, round, div, lt, le, of_bits}
use lib.Ieee.Fits.{up_pos, down_pos}
use Rattle.floats.specs.Binary64.{◌⊘◌, one}
use Rattle.floats.specs.Choice.{when◌give◌else◌}
use Rattle.floats.specs.Size.{abs_of}
use Rattle.floats.proofs.Order.{number, fails, lt→nle, nle→le, le→fractions, round-at-most}
use Rattle.floats.proofs.Monotone.{one-fits}
use Rattle.floats.proofs.Signs.{abs-round}
use Rattle.angles.specs.InnerSteps.{slope}

-- what is rounded from at most 1 is not above it
at_most_one : (a c : ℕ) → 0 < c → a ≤ c → T (le (round binary64 false a c) one)
unfolding of_bits
at_most_one a c p h = round-at-most binary64 one a c tt (one-fits binary64) p (omega arith)

not-above : (s : Bool) (a c : ℕ) → 0 < c → a ≤ c → lt one (abs_of (round binary64 s a c)) ≡ false
not-above s a c p h =
    let r = round binary64 false a c in
    rw abs-round (fails (lt one r) (λ (k : T (lt one r)). lt→nle one r k (at_most_one a c p h)))

-- the two sizes, as the quotient has them
sizes : (m : ℕ) (e : ℤ) (n : ℕ) (d : ℤ) → le (fin false m e) (fin false n d) ≡ true → m * up e * down d ≤ n * up d * down e
sizes m e n d h = le→fractions (fin false m e) (fin false n d) tt tt (subst T (sym h) tt)

pub quotient : (y x : Float) → le (abs_of y) (abs_of x) ≡ true → lt one (abs_of (y ⊘ x)) ≡ false
unfolding abs_of div
quotient nan x h = unfold lt of_bits in refl
quotient (inf s) nan h = unfold lt of_bits in refl
quotient (inf s) (inf t) h = unfold lt of_bits in refl
quotient (inf s) (fin t n d) h = absurd (false≢true (unfold le in h))
quotient (fin s m e) nan h = unfold lt of_bits in refl
quotient (fin s m e) (inf t) h = unfold lt of_bits in refl
quotient (fin s zero e) (fin t zero d) h = unfold lt of_bits in refl
quotient (fin s (suc m) e) (fin t zero d) h =
    let p : 0 < suc m * up e * down d = mul-pos (mul-pos (omega arith) (up_pos e)) (down_pos d) in
    let k : suc m * up e * down d ≤ 0 * up d * down e = sizes (suc m) e 0 d h in
    absurd (omega arith)
quotient (fin s m e) (fin t (suc n) d) h =
    let some : eqb (suc n) 0 ≡ false = ne_eqb (suc n) 0 (λ (z : suc n ≡ 0). omega arith) in
    rw some (not-above _ (m * up e * down d) (suc n * up d * down e) (mul-pos (mul-pos (omega arith) (up_pos d)) (down_pos e)) (sizes m e (suc n) d h))

turned : (x y : Float) → T (number x) → T (number y) → le y x ≡ false → le x y ≡ true
turned x y p q h = is_true (le x y) (nle→le y x q p (subst (λ (b : Bool). T (not b)) (sym h) tt))

-- the other way round, where the first is the larger one or one is a NaN
other_way : (x y : Float) → le (abs_of y) (abs_of x) ≡ false → lt one (abs_of (x ⊘ y)) ≡ false
unfolding abs_of div
other_way nan y h = unfold lt of_bits in refl
other_way (inf s) nan h = unfold lt of_bits in refl
other_way (fin s m e) nan h = unfold lt of_bits in refl
other_way (inf s) (inf t) h = quotient (inf s) (inf t) (turned (inf false) (inf false) tt tt h)
other_way (inf s) (fin t n d) h = quotient (inf s) (fin t n d) (turned (inf false) (fin false n d) tt tt h)
other_way (fin s m e) (inf t) h = quotient (fin s m e) (inf t) (turned (fin false m e) (inf false) tt tt h)
other_way (fin s m e) (fin t n d) h = quotient (fin s m e) (fin t n d) (turned (fin false m e) (fin false n d) tt tt h)

pub gentle_slope : (x y : Float) → lt one (abs_of (slope x y)) ≡ false
unfolding slope
gentle_slope x y = go (le (abs_of y) (abs_of x)) refl
  where
    go : (wide : Bool) → le (abs_of y) (abs_of x) ≡ wide → lt one (abs_of (when wide give y ⊘ x else x ⊘ y)) ≡ false
    go true h = unfold when◌give◌else◌ in quotient y x h
    go false h = unfold when◌give◌else◌ in other_way x y h
