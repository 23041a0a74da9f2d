-- Laws of `sqrt_of`. Its values at the edges (`sqrt-zero`, `sqrt-inf`, `sqrt-nan`, `sqrt_minus_inf`, `sqrt_negative`). From zero to infinity it is monotone (`sqrt_mono_up`).
-- For x and y above zero, x * x ≤ y gives x ≤ √y (`below_root`) and y ≤ x * x gives √y ≤ x (`above_root`), where x * x is the exact square, and not the rounded product.
-- Above zero it is finite and above zero (`sqrt_positive`), and it fits where its argument does (`sqrt-fits`). That it is the nearest is in `Nearest`. Assumes nothing.
use Rattle.std.proofs.Common.{◌≡◌, ℕ, zero, suc, ◌+◌, ◌*◌, ◌/◌, ◌^◌, ◌<◌, ◌≤◌, Bool, true, false, T, ℤ, pos, sym, refl, ap, ◌∙◌, subst, inl, inr, le_trans, le_of_eq, lt_of_le_of_lt, le_of_lt, mul-le-mul_right, zero-lt-suc, mul_assoc, mul_comm, mul-lt-mul_of_pos_right, mul-pos, le-div_iff_mul-le, mul_right_comm, mul-div_cancel, arith, lt→ltb, pow_pos}
use native.Mathlib.Nat.{mul-mul-mul_comm, div-le_of_le-mul}
use lib.Ieee.{Float, nan, inf, fin, binary64, up, down, round, fits, le, of_bits}
use lib.Ieee.Fits.{up_pos, nan-fits, inf-fits, round-fits}
use lib.Ieee.Nearest.{div_mono}
use lib.Ieee.Order.{transfer, round_mono}
use lib.Ieee.Positive.{num, den, den_pos, positive, le→cross, between, above, above_of_le}
use Rattle.floats.specs.Root.{sqrt_of, root_of, whole_root, twice_root}
use Rattle.floats.proofs.Whole.{whole-high}
use Rattle.floats.proofs.Closest.{twice_cases, twice_reaches, twice_below, twice_at-most}
use Rattle.floats.proofs.Fit.{fits_says, shift, under_top, no_zero}
use Rattle.floats.proofs.Order.{clear, positive→nonneg, le_through, le-number-r, le-fin, zero_under, infinity_greatest, nonneg_under, round_clear, round-at-least, round-at-most, between_rounds}

-- ---- at the edges: a zero of either sign and +∞ are their own roots, and below zero there is none
pub sqrt-zero : (s : Bool) (e : ℤ) → sqrt_of (fin s 0 e) ≡ fin s 0 e
unfolding sqrt_of
sqrt-zero s e = refl

pub sqrt-inf : sqrt_of (inf false) ≡ inf false
unfolding sqrt_of
sqrt-inf = refl

pub sqrt-nan : sqrt_of nan ≡ nan
unfolding sqrt_of
sqrt-nan = refl

pub sqrt_minus_inf : sqrt_of (inf true) ≡ nan
unfolding sqrt_of
sqrt_minus_inf = refl

pub sqrt_negative : (m : ℕ) (e : ℤ) → sqrt_of (fin true (suc m) e) ≡ nan
unfolding sqrt_of
sqrt_negative m e = refl

-- ---- above zero the root is `round` of this fraction
abbrev pub area : Float → ℕ
area x = num x * 2 ^ 2150 / den x

pub sqrt-is : (x : Float) → T (positive x) → sqrt_of x ≡ round binary64 false (twice_root (area x)) (2 ^ 1076)
unfolding sqrt_of root_of
sqrt-is nan p = absurd p
sqrt-is (inf s) p = absurd p
sqrt-is (fin true m e) p = absurd p
sqrt-is (fin false zero e) p = absurd p
sqrt-is (fin false (suc m) e) p = refl

-- so its sign is clear
pub sqrt_clear : (x : Float) → T (positive x) → T (clear (sqrt_of x))
sqrt_clear x p = subst (λ (z : Float). T (clear z)) (sym (sqrt-is x p)) (round_clear binary64 (twice_root (area x)) (2 ^ 1076))

-- ---- monotone
twice_mono : (n k : ℕ) → n ≤ k → twice_root n ≤ twice_root k
twice_mono n k h = elim (twice_cases k) [
  | inl q ↦ le_trans (twice_at-most n (whole_root k) (le_trans h (le_of_eq (sym q.0)))) (le_of_eq (sym q.1))
  | inr q ↦ let l : twice_root n < 2 * (whole_root k + 1) = twice_below n (whole_root k + 1) (lt_of_le_of_lt h (whole-high k)) in omega (arith, q.1)
]

scaled : (a b c d k : ℕ) → a * d ≤ c * b → a * k * d ≤ c * k * b
scaled a b c d k h = let l : a * d * k ≤ c * b * k = mul-le-mul_right k h in omega arith

sqrt_mono : (x y : Float) → T (positive x) → T (positive y) → T (le x y) → T (le (sqrt_of x) (sqrt_of y))
sqrt_mono x y p q h =
    between_rounds binary64 (sqrt_of x) (sqrt_of y) (twice_root (area x)) (2 ^ 1076) (twice_root (area y)) (2 ^ 1076) (sqrt-is x p) (sqrt-is y q) (pow_pos 1076) (pow_pos 1076)
    (mul-le-mul_right (2 ^ 1076)
    (twice_mono (area x) (area y) (div_mono (num x * 2 ^ 2150) (den x) (num y * 2 ^ 2150) (den y) (den_pos x) (den_pos y) (scaled (num x) (den x) (num y) (den y) (2 ^ 2150) (le→cross x y p q h)))))

-- ---- a value that fits is m * 2 ^ j of the format's smallest values, with an m of 53 digits
pub record OnGrid (x : Float) : Type 0 where
  pub m : ℕ
  pub j : ℕ
  pub some : 0 < m
  pub small : m < 2 ^ 53
  pub under : m * 2 ^ j < 2 ^ 2098
  pub is : num x * 2 ^ 1074 ≡ m * 2 ^ j * den x

pub on_grid : (x : Float) → T (positive x) → T (fits binary64 x) → OnGrid x
on_grid nan p f = absurd p
on_grid (inf s) p f = absurd p
on_grid (fin true m e) p f = absurd p
on_grid (fin false zero e) p f = absurd p
on_grid (fin false (suc m) e) p f =
    let k = fits_says binary64 false m e f in
    let l = shift e 1074 k.2 in
    let eq : suc m * up e * 2 ^ 1074 ≡ suc m * 2 ^ l.0 * down e = mul_assoc (suc m) (up e) (2 ^ 1074) ∙ ap (λ (x : ℕ). suc m * x) l.1 ∙ sym (mul_assoc (suc m) (2 ^ l.0) (down e)) in
    record {
      m = suc m;
      j = l.0;
      some = zero-lt-suc m;
      small = k.1;
      under = under_top (suc m) (2 ^ l.0) (down e) (suc m * up e * 2 ^ 1074) (2 ^ 1074) (2 ^ 1024) eq (mul-lt-mul_of_pos_right k.3 (pow_pos 1074));
      is = eq;
    }

-- ---- the root is finite and above zero
-- where x is a of the smallest values
pub area_is : (x : Float) (a : ℕ) → num x * 2 ^ 1074 ≡ a * den x → area x ≡ a * 2 ^ 1076
area_is x a e =
    ap (λ (z : ℕ). z / den x) (sym (mul_assoc (num x) (2 ^ 1074) (2 ^ 1076)) ∙ ap (λ (z : ℕ). z * 2 ^ 1076) e ∙ mul_right_comm a (den x) (2 ^ 1076)) ∙ mul-div_cancel (a * 2 ^ 1076) (den_pos x)

pub area_low : (x : Float) → OnGrid x → 2 ^ 1076 ≤ area x
area_low x g = subst (λ (z : ℕ). 2 ^ 1076 ≤ z) (sym (area_is x (g.m * 2 ^ g.j) g.is)) (mul-le-mul_right (2 ^ 1076) (mul-pos g.some (pow_pos g.j)))

area_high : (x : Float) → OnGrid x → area x < 2 ^ 3174
area_high x g = subst (λ (z : ℕ). z < 2 ^ 3174) (sym (area_is x (g.m * 2 ^ g.j) g.is)) (mul-lt-mul_of_pos_right g.under (pow_pos 1076))

least : Float
least = round binary64 false (2 ^ 539) (2 ^ 1076)

greatest : Float
greatest = round binary64 false (2 ^ 1588) (2 ^ 1076)

least_positive : T (positive least)
unfolding round least
least_positive = tt

greatest_positive : T (positive greatest)
unfolding round greatest
greatest_positive = tt

pub sqrt_positive : (x : Float) → T (positive x) → T (fits binary64 x) → T (positive (sqrt_of x))
unfolding least greatest
sqrt_positive x p f =
    let g = on_grid x p f in
    let a = twice_root (area x) in
    subst (λ (z : Float). T (positive z)) (sym (sqrt-is x p))
    (between least (round binary64 false a (2 ^ 1076)) greatest least_positive greatest_positive
    (round_mono binary64 (2 ^ 539) (2 ^ 1076) a (2 ^ 1076) (pow_pos 1076) (pow_pos 1076) (mul-le-mul_right (2 ^ 1076) (twice_reaches (area x) (2 ^ 538) (area_low x g))))
    (round_mono binary64 a (2 ^ 1076) (2 ^ 1588) (2 ^ 1076) (pow_pos 1076) (pow_pos 1076) (mul-le-mul_right (2 ^ 1076) (le_of_lt (twice_below (area x) (2 ^ 1587) (area_high x g))))))

-- ---- x * x ≤ y and y ≤ x * x, as fractions: x is num x / den x
abbrev pub SquareLe : Float → Float → Type 0
SquareLe x y = num x * num x * den y ≤ num y * (den x * den x)

abbrev pub LeSquare : Float → Float → Type 0
LeSquare y x = num y * (den x * den x) ≤ num x * num x * den y

-- x in units of 2 ^ -1075
abbrev units : {x : Float} → OnGrid x → ℕ
units g = g.m * 2 ^ g.j * 2

units_is : (x : Float) (g : OnGrid x) → num x * 2 ^ 1075 ≡ units g * den x
units_is x g = sym (mul_assoc (num x) (2 ^ 1074) 2) ∙ ap (λ (z : ℕ). z * 2) g.is ∙ mul_right_comm (g.m * 2 ^ g.j) (den x) 2

-- twice as many, in units half as large
twice_units : (x : Float) (g : OnGrid x) → num x * 2 ^ 1076 ≡ 2 * units g * den x
twice_units x g = sym (mul_assoc (num x) (2 ^ 1075) 2) ∙ ap (λ (z : ℕ). z * 2) (units_is x g) ∙ mul_comm (units g * den x) 2 ∙ sym (mul_assoc 2 (units g) (den x))

units_squared : (x : Float) (g : OnGrid x) → units g * units g * (den x * den x) ≡ num x * num x * 2 ^ 2150
units_squared x g = mul-mul-mul_comm (units g) (units g) (den x) (den x) ∙ ap (λ (z : ℕ). z * z) (sym (units_is x g)) ∙ mul-mul-mul_comm (num x) (2 ^ 1075) (num x) (2 ^ 1075)

pub below_root : (x y : Float) → T (positive x) → T (fits binary64 x) → T (positive y) → SquareLe x y → T (le x (sqrt_of y))
below_root x y p f q h =
    let g = on_grid x p f in
    let u = units g in
    let n = area y in
    let l : u * u ≤ n = (le-div_iff_mul-le (den_pos y)).1 (transfer (u * u) (num y) (2 ^ 2150) (den y) (num x * num x) (num y) (den x * den x) (den y) (mul-pos (den_pos x) (den_pos x)) (den_pos y) (units_squared x g) refl h) in
    subst (λ (z : Float). T (le x z)) (sym (sqrt-is y q))
    (round-at-least binary64 x (twice_root n) (2 ^ 1076) (positive→nonneg x p) f (pow_pos 1076) (le_trans (le_of_eq (twice_units x g)) (mul-le-mul_right (den x) (twice_reaches n u l))))

pub above_root : (x y : Float) → T (positive x) → T (fits binary64 x) → T (positive y) → LeSquare y x → T (le (sqrt_of y) x)
above_root x y p f q h =
    let g = on_grid x p f in
    let u = units g in
    let n = area y in
    let s : num y * 2 ^ 2150 ≤ u * u * den y = transfer (num y) (u * u) (den y) (2 ^ 2150) (num y) (num x * num x) (den y) (den x * den x) (den_pos y) (mul-pos (den_pos x) (den_pos x)) refl (units_squared x g) h in
    let l : n ≤ u * u = div-le_of_le-mul (den y) (le_trans s (le_of_eq (mul_comm (u * u) (den y)))) in
    subst (λ (z : Float). T (le z x)) (sym (sqrt-is y q))
    (round-at-most binary64 x (twice_root n) (2 ^ 1076) (positive→nonneg x p) f (pow_pos 1076) (le_trans (mul-le-mul_right (den x) (twice_at-most n u l)) (le_of_eq (sym (twice_units x g)))))

-- ---- monotone from zero to infinity
-- what is at or above zero: a zero, a value above zero, or +∞
data Up : Float → Type 0 where
  none : {s : Bool} {e : ℤ} → Up (fin s 0 e)
  some : {x : Float} → T (positive x) → Up x
  all : Up (inf false)

up_of : (x : Float) → T (le (of_bits binary64 0) x) → Up x
unfolding of_bits
up_of nan h = absurd (le-number-r (fin false 0 (pos 0)) nan h)
up_of (inf true) h = absurd (unfold le in h)
up_of (inf false) h = all
up_of (fin s zero e) h = none
up_of (fin true (suc m) e) h = absurd (no_zero m (up e) 1 (up_pos e) (pow_pos 0) (le-fin false 0 (pos 0) true (suc m) e h).1)
up_of (fin false (suc m) e) h = some (lt→ltb 0 (suc m) (zero-lt-suc m))

pub sqrt_mono_up : (x y : Float) → T (le (of_bits binary64 0) x) → T (le x y) → T (le (sqrt_of x) (sqrt_of y))
sqrt_mono_up x y z h = go (up_of x z) (up_of y (le_through (of_bits binary64 0) x y z h)) h
  where
    not-zero : (s : Bool) (e : ℤ) → T (above (fin s 0 e)) → ⊥
    not-zero true e a = a
    not-zero false e a = a

    go : {x y : Float} → Up x → Up y → T (le x y) → T (le (sqrt_of x) (sqrt_of y))
    go none none h = unfold sqrt_of in h
    go {y = y} (none {s = s} {e = e}) (some q) h = subst (λ (z : Float). T (le z (sqrt_of y))) (sym (sqrt-zero s e)) (zero_under s e (sqrt_of y) (sqrt_clear y q))
    go none all h = unfold sqrt_of in h
    go {x = x} (some p) (none {s = s} {e = e}) h = absurd (not-zero s e (above_of_le x (fin s 0 e) p h))
    go {x = x} {y = y} (some p) (some q) h = sqrt_mono x y p q h
    go {x = x} (some p) all h = subst (λ (z : Float). T (le (sqrt_of x) z)) (sym sqrt-inf) (infinity_greatest (sqrt_of x) (sqrt_clear x p))
    go all none h = absurd (unfold le in h)
    go {y = y} all (some q) h = absurd (nonneg_under (inf false) y tt (positive→nonneg y q) h)
    go all all h = unfold sqrt_of in h

-- the root of a value that fits fits
pub sqrt-fits : (x : Float) → T (fits binary64 x) → T (fits binary64 (sqrt_of x))
unfolding sqrt_of root_of
sqrt-fits nan h = nan-fits binary64
sqrt-fits (inf true) h = nan-fits binary64
sqrt-fits (inf false) h = inf-fits binary64 false
sqrt-fits (fin s zero e) h = h
sqrt-fits (fin true (suc m) e) h = nan-fits binary64
sqrt-fits (fin false (suc m) e) h = round-fits binary64 false (twice_root (suc m * up e * 2 ^ 2150 / down e)) (2 ^ 1076)
