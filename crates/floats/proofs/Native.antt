-- The language's root is `sqrt_of` (`native_sqrt`). It is rounded from units 2 ^ 1196 times as small; but neither a binary64 nor the middle of two lies strictly between two
-- neighbouring units of `sqrt_of`, so what lies there rounds alike (`between_units`). Assumes nothing.
use Rattle.std.proofs.Common.{◌≡◌, ℕ, zero, suc, ◌+◌, ◌-◌, ◌*◌, ◌/◌, ◌^◌, ◌<◌, ◌≤◌, true, false, T, sym, refl, ap, ◌∙◌, inl, inr, zero-lt-suc, mul_assoc, div-lt_iff_lt-mul, le_antisymm, mul-le-mul_right, mul-lt-mul_of_pos_right, mul-pos, le-div_iff_mul-le, le_of_suc-le-suc, le_of_eq, lt_of_lt_of_le, lt_of_le_of_lt, mul_right_comm, mul-div_cancel, lt→ltb, arith, pow_pos}
use native.Mathlib.Nat.{mul-mul-mul_comm}
use lib.Arith.{lt_of_le-ne}
use lib.Ieee.{Float, nan, inf, fin, binary64, size, units, round, fits, sqrt, root_twice}
use lib.Ieee.Fits.{round_is}
use lib.Ieee.Nearest.{closest}
use lib.Ieee.Positive.{num, den, den_pos}
use lib.Ieee.Scale.{round_same}
use Rattle.floats.specs.Root.{sqrt_of, root_of, whole_root, twice_root}
use Rattle.floats.proofs.Whole.{root_alike, whole-low, whole-high}
use Rattle.floats.proofs.Closest.{closest_is, closest_near, twice_cases, twice_above, twice_below, twice_at-most, twice_reaches}
use Rattle.floats.proofs.Fit.{zero_says}
use Rattle.floats.proofs.Laws.{area, OnGrid, on_grid, area_is}

-- ---- twice the root, as the logic defines it
twice_alike : (n : ℕ) → root_twice n ≡ twice_root n
unfolding root_twice twice_root whole_root
twice_alike n = rw (root_alike (size n) n) refl

-- ---- a lies strictly between w and w + 1 units, each of 2 * u: what is rounded is told by w
-- its digits, with L for 2 ^ 1074
digits : (a w u L : ℕ) → 0 < L → 2 * w * u < a → a < 2 * (w + 1) * u → a * L / (u * (4 * L)) ≡ w / 2
digits a w u L p lo hi =
    let c = u * (4 * L) in
    let l : 2 * w * u * L < a * L = mul-lt-mul_of_pos_right lo p in
    let r : a * L < 2 * (w + 1) * u * L = mul-lt-mul_of_pos_right hi p in
    let under : w / 2 * 2 * (u * L) ≤ w * (u * L) = mul-le-mul_right (u * L) (omega arith) in
    let over : (w + 1) * (u * L) ≤ (w / 2 + 1) * 2 * (u * L) = mul-le-mul_right (u * L) (omega arith) in
    let C : 0 < c = omega arith in
    le_antisymm (le_of_suc-le-suc ((div-lt_iff_lt-mul C).1 (omega arith))) ((le-div_iff_mul-le C).1 (omega arith))

-- the multiple of h that is nearest
multiple : (a w u L h : ℕ) → 0 < L → 0 < h → 2 * w * u < a → a < 2 * (w + 1) * u → closest (a * L) (u * (4 * L) * h) ≡ closest (2 * w + 1) (4 * h)
multiple a w u L h p P lo hi =
    let q = closest (2 * w + 1) (4 * h) in
    let k = closest_near (2 * w + 1) (4 * h) (omega arith) in
    let l : 2 * w * u * L < a * L = mul-lt-mul_of_pos_right lo p in
    let r : a * L < 2 * (w + 1) * u * L = mul-lt-mul_of_pos_right hi p in
    let under : 2 * (q * h) * (u * L) ≤ (w + h) * (u * L) = mul-le-mul_right (u * L) (omega (arith, k.0)) in
    let over : (w + 1) * (u * L) ≤ (2 * (q * h) + h) * (u * L) = mul-le-mul_right (u * L) (omega (arith, k.1)) in
    closest_is (a * L) (u * (4 * L) * h) q (mul-pos (omega arith) P) (omega arith) (omega arith)

between_units : (a w u : ℕ) → 2 * w * u < a → a < 2 * (w + 1) * u → round binary64 false a (u * 2 ^ 1076) ≡ units binary64 false (closest (2 * w + 1) (4 * 2 ^ (size (w / 2) - 53))) (size (w / 2) - 53)
between_units a w u lo hi =
    let i = size (w / 2) - 53 in
    round_is binary64 false a (u * 2 ^ 1076)
    ∙ ap (λ (z : ℕ). units binary64 false (closest (a * 2 ^ 1074) (u * 2 ^ 1076 * 2 ^ (size z - 53))) (size z - 53)) (digits a w u (2 ^ 1074) (pow_pos 1074) lo hi)
    ∙ ap (λ (z : ℕ). units binary64 false z i) (multiple a w u (2 ^ 1074) (2 ^ i) (pow_pos 1074) (pow_pos i) lo hi)

-- ---- n as it is, and in units u times as small
finer : (n u : ℕ) → 0 < u → round binary64 false (twice_root (n * (u * u))) (u * 2 ^ 1076) ≡ round binary64 false (twice_root n) (2 ^ 1076)
finer n u U =
    let w = whole_root n in
    let N = n * (u * u) in
    let square : (c : ℕ) → c * u * (c * u) ≡ c * c * (u * u) = λ c. mul-mul-mul_comm c u c u in
    elim (twice_cases n) [
      | inl k ↦
          let e : w * u * (w * u) ≡ N = square w ∙ ap (λ (z : ℕ). z * (u * u)) k.0 in
          let t : twice_root N ≡ 2 * (w * u) = le_antisymm (twice_at-most N (w * u) (le_of_eq (sym e))) (twice_reaches N (w * u) (le_of_eq e)) in
          round_same binary64 false (twice_root N) (u * 2 ^ 1076) (twice_root n) (2 ^ 1076) (mul-pos U (pow_pos 1076)) (pow_pos 1076) (rw (t, k.1) (omega arith))
      | inr k ↦
          let lo : 2 * (w * u) < twice_root N = twice_above N (w * u) (lt_of_le_of_lt (le_of_eq (square w)) (mul-lt-mul_of_pos_right (lt_of_le-ne (whole-low n) k.0) (mul-pos U U))) in
          let hi : twice_root N < 2 * ((w + 1) * u) = twice_below N ((w + 1) * u) (lt_of_lt_of_le (mul-lt-mul_of_pos_right (whole-high n) (mul-pos U U)) (le_of_eq (sym (square (w + 1))))) in
          between_units (twice_root N) w u (omega arith) (omega arith) ∙ sym (between_units (twice_root n) w 1 (omega (arith, k.1)) (omega (arith, k.1)))
    ]

-- 2 ^ 1196 times as small, whose squares are 2 ^ 2392 times as many
fine_area : (x : Float) → OnGrid x → num x * 2 ^ 4542 / den x ≡ area x * (2 ^ 1196 * 2 ^ 1196)
fine_area x g =
    let a = g.m * 2 ^ g.j in
    ap (λ (z : ℕ). z / den x) (sym (mul_assoc (num x) (2 ^ 1074) (2 ^ 3468)) ∙ ap (λ (z : ℕ). z * 2 ^ 3468) g.is ∙ mul_right_comm a (den x) (2 ^ 3468))
    ∙ mul-div_cancel (a * 2 ^ 3468) (den_pos x)
    ∙ sym (mul_assoc a (2 ^ 1076) (2 ^ 2392))
    ∙ ap (λ (z : ℕ). z * 2 ^ 2392) (sym (area_is x a g.is))

pub native_sqrt : (x : Float) → T (fits binary64 x) → sqrt binary64 x ≡ sqrt_of x
unfolding sqrt sqrt_of root_of
native_sqrt nan h = refl
native_sqrt (inf true) h = refl
native_sqrt (inf false) h = refl
native_sqrt (fin s zero e) h = ap (fin s 0) (sym (zero_says binary64 s e h))
native_sqrt (fin true (suc m) e) h = refl
native_sqrt (fin false (suc m) e) h =
    let x = fin false (suc m) e in
    ap (λ (n : ℕ). round binary64 false n (2 ^ 2272)) (twice_alike (num x * 2 ^ 4542 / den x) ∙ ap twice_root (fine_area x (on_grid x (lt→ltb 0 (suc m) (zero-lt-suc m)) h)))
    ∙ finer (area x) (2 ^ 1196) (pow_pos 1196)
