-- A number less itself is +0 where it is finite, and else a NaN. A sum of such is +0 where all are (`all-finite`), and one more keeps a NaN that was there (`doubt-more`): so one sum
-- tells whether all numbers are finite. Assumes nothing.
use mathlib.Core.Path.{◌≡◌, refl, sym, ap, ◌∙◌}
use mathlib.Core.Bool.{Bool, true, false, not, ◌&&◌, beq, cond}
use Prim.Native.Nat.{ℕ, zero, suc, ◌+◌, ◌-◌, ◌*◌, ◌/◌, ◌^◌, ◌<◌}
use native.Mathlib.Nat.{zero-mul, mul-pos, zero-lt-suc}
use native.Mathlib.Omega.{arith}
use borrow.Author.Tests.{le-ltb, eq-eqb}
use lib.Dec.{ltb}
use lib.IntN.{pos}
use lib.Ieee.{Float, nan, inf, fin, Format, binary64, prec, emax, low, size, up, down, odd, units, round, sum, neg, add, sub, eq, is_nan}
use lib.Ieee.Fits.{down_pos, round_is}
use lib.Ieee.Scale.{round_same}
use Rattle.floats.specs.Binary64.{◌⊕◌, ◌⊖◌}
use Rattle.floats.specs.Choice.{◌and◌}
use Rattle.floats.specs.Size.{finite}
use Rattle.moves.specs.InnerSteps.{doubt_of, sure}

abbrev pub none : Float
none = fin false 0 (pos 0)

round-none : (a c : ℕ) → a ≡ 0 → 0 < c → round binary64 false a c ≡ none
unfolding round
round-none a c h k = ap (λ n. round binary64 false n c) h ∙ round_same binary64 false 0 c 0 1 k (zero-lt-suc 0) (zero-mul 1 ∙ sym (zero-mul c))

sum_self : (s : Bool) (a c : ℕ) → 0 < c → sum binary64 s a (not s) a c ≡ none
unfolding sum
sum_self true a c k = rw (le-ltb a a (omega arith)) (round-none (a - a) c (omega arith) k)
sum_self false a c k = rw (le-ltb a a (omega arith)) (round-none (a - a) c (omega arith) k)

pub less_itself : (x : Float) → x ⊖ x ≡ doubt_of (finite x)
unfolding sub add neg finite
less_itself nan = refl
less_itself (inf true) = refl
less_itself (inf false) = refl
less_itself (fin s m d) = sum_self s (m * up d * down d) (down d * down d) (mul-pos (down_pos d) (down_pos d))

sums : (a b : Bool) → doubt_of a ⊕ doubt_of b ≡ doubt_of (a and b)
unfolding add sum round ◌and◌
sums true true = refl
sums true false = refl
sums false b = refl

pub all-finite : (x y z : Float) → (x ⊖ x) ⊕ (y ⊖ y) ⊕ (z ⊖ z) ≡ doubt_of (finite x and finite y and finite z)
all-finite x y z = rw (less_itself x, less_itself y, less_itself z, sums (finite x) (finite y), sums (finite x and finite y) (finite z))

-- ---- a doubt, and one more

odd_sure : (d : ℕ) (s : Bool) (q k l : ℕ) → sure (odd d s q k l) ≡ true
unfolding odd is_nan
odd_sure d s zero k l = refl
odd_sure d s (suc q) k l = refl

one_of : (t : Bool) (x y : Float) → sure x ≡ true → sure y ≡ true → sure (cond t x y) ≡ true
one_of true x y h k = h
one_of false x y h k = k

units_sure : (f : Format) (s : Bool) (q k : ℕ) → sure (units f s q k) ≡ true
unfolding units
units_sure f s q k =
    let small = ltb (q * 2 ^ k) (2 ^ (low f + suc (emax f))) in
    one_of small (odd (suc (prec f)) s q k (low f)) (inf s) (odd_sure (suc (prec f)) s q k (low f)) (unfold is_nan in refl)

round-sure : (s : Bool) (a c : ℕ) → sure (round binary64 s a c) ≡ true
round-sure s a c = ap sure (round_is binary64 s a c) ∙ units_sure binary64 s _ (size (a * 2 ^ low binary64 / c) - prec binary64)

sum-sure : (s : Bool) (a : ℕ) (t : Bool) (b c : ℕ) → sure (sum binary64 s a t b c) ≡ true
unfolding sum
sum-sure s a t b c =
    one_of (beq s t) _ _ (round-sure s (a + b) c) (one_of (ltb a b) _ _ (round-sure t (b - a) c) (round-sure (s && ltb b a) (a - b) c))

pub doubt-more : (x : Float) (a : Bool) → sure (x ⊕ doubt_of a) ≡ (a and sure x)
unfolding add is_nan ◌and◌
doubt-more nan true = refl
doubt-more nan false = refl
doubt-more (inf s) true = refl
doubt-more (inf s) false = refl
doubt-more (fin s m d) true = sum-sure s (m * up d * down (pos 0)) false (0 * up (pos 0) * down d) (down d * down (pos 0))
doubt-more (fin s m d) false = refl

-- a NaN alone is not equal to itself
pub sure_itself : (x : Float) → eq x x ≡ sure x
unfolding eq is_nan
sure_itself nan = refl
sure_itself (inf true) = refl
sure_itself (inf false) = refl
sure_itself (fin true m d) = rw (eq-eqb (m * up d * down d) (m * up d * down d) refl)
sure_itself (fin false m d) = rw (eq-eqb (m * up d * down d) (m * up d * down d) refl)
