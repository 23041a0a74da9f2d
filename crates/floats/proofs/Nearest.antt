-- `sqrt_of y` is the binary64 nearest to √y, for y finite and above zero (`sqrt_nearest`): it lies nearer than every other value above zero, and no tie occurs.
-- Assumes nothing.
use Rattle.std.proofs.Common.{◌≡◌, ℕ, zero, suc, ◌+◌, ◌-◌, ◌*◌, ◌/◌, ◌%◌, ◌^◌, ◌<◌, ◌≤◌, false, T, sym, refl, ap, ◌∙◌, subst, inl, inr, le_trans, le_of_eq, lt_of_lt_of_le, le_of_suc-le-suc, lt_of_le_of_lt, le_of_lt, lt_irrefl, mul-le-mul_right, mul_assoc, suc-mul, lt_of_mul-lt-mul_right, eq-or-lt_of_le, mul-pos, lt_of_not-le, sub-add_cancel, not-le_of_lt, div-mul-le_self, le_of_mul-le-mul_right, mul-div_cancel, arith, lit≤, pow_pos, pow_mono, pow-add, shl_lt}
use Rattle.std.proofs.lemmas.Nat.{mul-lt}
use native.Mathlib.Nat.{mul-mul-mul_comm}
use native.Mathlib.Decide.{dec_le}
use lib.Arith.{lt_of_le-ne}
use lib.Ieee.{Float, binary64, size, round, fits}
use lib.Ieee.Digits.{size_reaches}
use lib.Ieee.Exact.{HasValue}
use lib.Ieee.Nearest.{closest}
use lib.Ieee.Scale.{round_val, round_under, normal_of_fraction}
use lib.Ieee.Positive.{num, den, den_pos, positive, positive-finite, value→cross}
use Rattle.floats.specs.Root.{sqrt_of, twice_root}
use Rattle.floats.proofs.Closest.{closest_near, twice_above, twice_below, twice_reaches}
use Rattle.floats.proofs.Whole.{sq_mono}
use Rattle.floats.proofs.Fit.{odd_part}
use Rattle.floats.proofs.Laws.{area, sqrt-is, OnGrid, on_grid, area_is, area_low, sqrt_positive}

-- Without real numbers: a value x that fits is `steps x` of the smallest value, 2 ^ -1074, and √y is √(area y) halves of a step, since area y is y * 2 ^ 2150.
-- The middle of r and z is `steps r + steps z` halves. So r is nearer to √y than z where √y lies on r's side of that middle: below it for a z above r, and
-- above it for a z below r. (Zero and the values below it lie further away still than the smallest value.)
abbrev pub steps : Float → ℕ
steps x = num x * 2 ^ 1074 / den x

abbrev pub middle : Float → Float → ℕ
middle r z = steps r + steps z

pub record Nearest (y r : Float) : Type 0 where
  pub above : (z : Float) → T (positive z) → T (fits binary64 z) → steps r < steps z → area y < middle r z * middle r z
  pub below : (z : Float) → T (positive z) → T (fits binary64 z) → steps z < steps r → middle r z * middle r z < area y

steps_is : (x : Float) (a : ℕ) → num x * 2 ^ 1074 ≡ a * den x → steps x ≡ a
steps_is x a e = ap (λ (z : ℕ). z / den x) e ∙ mul-div_cancel a (den_pos x)

-- ---- the result as q * 2 ^ i steps
abbrev drops : ℕ → ℕ
drops a = size (a * 2 ^ 1074 / 2 ^ 1076) - 53

abbrev keeps : ℕ → ℕ
keeps a = closest (a * 2 ^ 1074) (2 ^ 1076 * 2 ^ drops a)

-- with L for 2 ^ 1074, and c for the product of q and h = 2 ^ i
lean : (a q h L : ℕ) → 0 < L → 2 * (q * (4 * L * h)) ≤ 2 * (a * L) + 4 * L * h → 4 * (q * h) ≤ a + 2 * h
lean a q h L p k = let x : 4 * (q * h) * L ≤ (a + 2 * h) * L = omega arith in le_of_mul-le-mul_right x p

reach : (a q h L : ℕ) → 0 < L → 2 * (a * L) ≤ 2 * (q * (4 * L * h)) + 4 * L * h → a ≤ 4 * (q * h) + 2 * h
reach a q h L p k = let x : a * L ≤ (4 * (q * h) + 2 * h) * L = omega arith in le_of_mul-le-mul_right x p

-- what is known of the root of n: G steps, a multiple of 2 ^ i, of 53 digits, and within half of 2 ^ i
record Rounded (n G : ℕ) : Type 0 where
  i : ℕ
  q : ℕ
  is : G ≡ q * 2 ^ i
  digits : 2 ^ 52 ≤ q
  normal : 2 ^ 52 * 2 ^ i ≤ G
  first : 4 * (2 ^ 52 * 2 ^ i) ≤ twice_root n
  under : 4 * G ≤ twice_root n + 2 * 2 ^ i
  over : twice_root n ≤ 4 * G + 2 * 2 ^ i

-- the digits of a / 4
first_of : (a i : ℕ) → suc (52 + i) ≡ size (a * 2 ^ 1074 / 2 ^ 1076) → 4 * (2 ^ 52 * 2 ^ i) ≤ a
first_of a i e =
    le_of_mul-le-mul_right
    (le_trans (le_of_eq (regroup (2 ^ 52) (2 ^ i) (2 ^ 1074)))
    (le_trans (mul-le-mul_right (2 ^ 1076) (subst (λ (z : ℕ). z ≤ a * 2 ^ 1074 / 2 ^ 1076) (pow-add 2 52 i) (size_reaches (a * 2 ^ 1074 / 2 ^ 1076) (52 + i) (le_of_eq e)))) (div-mul-le_self (a * 2 ^ 1074) (2 ^ 1076))))
    (pow_pos 1074)
  where
    regroup : (x y L : ℕ) → 4 * (x * y) * L ≡ x * y * (4 * L)
    regroup x y L = omega arith

rounded : (x : Float) → T (positive x) → T (fits binary64 x) → Rounded (area x) (steps (sqrt_of x))
rounded x p f =
    let n = area x in
    let a = twice_root n in
    let R = round binary64 false a (2 ^ 1076) in
    let A = a * 2 ^ 1074 in
    let i = drops a in
    let q = keeps a in
    let R-pos : T (positive R) = subst (λ (z : Float). T (positive z)) (sqrt-is x p) (sqrt_positive x p f) in
    let v : HasValue R false (q * 2 ^ i) (2 ^ 1074) = round_val binary64 a (2 ^ 1076) (round_under binary64 a (2 ^ 1076) (positive-finite R R-pos)) in
    let G-is : steps (sqrt_of x) ≡ q * 2 ^ i = ap steps (sqrt-is x p) ∙ steps_is R (q * 2 ^ i) (value→cross R (q * 2 ^ i) (2 ^ 1074) v) in
    let big : 52 < size (A / 2 ^ 1076) = normal_of_fraction binary64 a (2 ^ 1076) (pow_pos 1076) (enough a (twice_reaches n (2 ^ 538) (area_low x (on_grid x p f)))) in
    let sz : suc (52 + i) ≡ size (A / 2 ^ 1076) = cut (size (A / 2 ^ 1076)) big in
    let fd : 4 * (2 ^ 52 * 2 ^ i) ≤ a = first_of a i sz in
    let c = closest_near A (2 ^ 1076 * 2 ^ i) (mul-pos (pow_pos 1076) (pow_pos i)) in
    let un : 4 * (q * 2 ^ i) ≤ a + 2 * 2 ^ i = lean a q (2 ^ i) (2 ^ 1074) (pow_pos 1074) c.0 in
    let ov : a ≤ 4 * (q * 2 ^ i) + 2 * 2 ^ i = reach a q (2 ^ i) (2 ^ 1074) (pow_pos 1074) c.1 in
    let big-q : 2 ^ 52 ≤ q = half_up (2 ^ i) (pow_pos i) q (le_trans fd ov) in
    record {
      i = i;
      q = q;
      is = G-is;
      digits = big-q;
      normal = subst (λ (z : ℕ). 2 ^ 52 * 2 ^ i ≤ z) (sym G-is) (mul-le-mul_right (2 ^ i) big-q);
      first = fd;
      under = subst (λ (z : ℕ). 4 * z ≤ a + 2 * 2 ^ i) (sym G-is) un;
      over = subst (λ (z : ℕ). a ≤ 4 * z + 2 * 2 ^ i) (sym G-is) ov;
    }
  where
    enough : (a : ℕ) → 2 * 2 ^ 538 ≤ a → 2 ^ 52 * 2 ^ 1076 ≤ a * 2 ^ 1074
    enough a h = le_trans (lit≤ tt) (mul-le-mul_right (2 ^ 1074) h)

    cut : (z : ℕ) → 52 < z → suc (52 + (z - 53)) ≡ z
    cut z h = omega arith

    -- q + 1/2 is at least 2 ^ 52
    half_up : (h : ℕ) → 0 < h → (q : ℕ) → 4 * (2 ^ 52 * h) ≤ 4 * (q * h) + 2 * h → 2 ^ 52 ≤ q
    half_up h p q k = le_of_suc-le-suc (lt_of_mul-lt-mul_right h (subst (λ (z : ℕ). 2 ^ 52 * h < z) (sym (suc-mul q h)) (less (2 ^ 52 * h) (q * h) h p k)))
      where
        less : (x y h : ℕ) → 0 < h → 4 * x ≤ 4 * y + 2 * h → x < y + h
        less x y h p k = omega arith

-- ---- from 2 ^ 52 * 2 ^ i steps on, every value is a multiple of 2 ^ i steps
multiple : (z : Float) (g : OnGrid z) (i : ℕ) → 2 ^ 52 * 2 ^ i ≤ steps z → (t : ℕ) × (steps z ≡ t * 2 ^ i)
multiple z g i h =
    let e = steps_is z (g.m * 2 ^ g.j) g.is in
    let l : i ≤ g.j = le_of_suc-le-suc (lt_of_not-le (λ (k : suc g.j ≤ i). clash k (subst (λ (x : ℕ). 2 ^ 52 * 2 ^ i ≤ x) e h))) in
    (g.m * 2 ^ (g.j - i), e ∙ ap (λ (x : ℕ). g.m * 2 ^ x) (sym (sub-add_cancel l)) ∙ ap (λ (x : ℕ). g.m * x) (pow-add 2 (g.j - i) i) ∙ sym (mul_assoc g.m (2 ^ (g.j - i)) (2 ^ i)))
  where
    up : (i j : ℕ) → suc j ≤ i → 53 + j ≤ 52 + i
    up i j h = omega arith

    clash : suc g.j ≤ i → 2 ^ 52 * 2 ^ i ≤ g.m * 2 ^ g.j → ⊥
    clash k b = not-le_of_lt (shl_lt 53 g.j g.small) (le_trans (pow_mono (up i g.j k)) (le_trans (le_of_eq (pow-add 2 52 i)) b))

-- two multiples of h that differ, differ by h
apart : (s t h : ℕ) → s * h < t * h → s * h + h ≤ t * h
apart s t h k = le_trans (le_of_eq (sym (suc-mul s h))) (mul-le-mul_right h (lt_of_mul-lt-mul_right h k))

-- ---- from `twice_root n` to n
at_most : (n c : ℕ) → twice_root n ≤ 2 * c → n ≤ c * c
at_most n c h = le_of_suc-le-suc (lt_of_not-le (λ (k : suc (c * c) ≤ n). not-le_of_lt (twice_above n c k) h))

at_least : (n c : ℕ) → 2 * c ≤ twice_root n → c * c ≤ n
at_least n c h = le_of_suc-le-suc (lt_of_not-le (λ (k : suc n ≤ c * c). not-le_of_lt (twice_below n c k) h))

-- ---- no tie: the middle of two neighbours has 54 digits, the last of them odd, and so its square more than 53
area_digits : (y : Float) (g : OnGrid y) → area y ≡ g.m * 2 ^ (g.j + 1076)
area_digits y g = area_is y (g.m * 2 ^ g.j) g.is ∙ mul_assoc g.m (2 ^ g.j) (2 ^ 1076) ∙ ap (λ (z : ℕ). g.m * z) (sym (pow-add 2 g.j 1076))

no_tie : (y : Float) → OnGrid y → (p i : ℕ) → 2 ^ 52 ≤ suc p → (2 * p + 1) * 2 ^ i * ((2 * p + 1) * 2 ^ i) ≡ area y → ⊥
no_tie y g p i l e =
    let c = 2 * p + 1 in
    let o : c * c % 2 ≡ 1 = odd p in
    let h : c * c * 2 ^ (i + i) ≡ g.m * 2 ^ (g.j + 1076) = ap (λ (z : ℕ). c * c * z) (pow-add 2 i i) ∙ sym (mul-mul-mul_comm c (2 ^ i) c (2 ^ i)) ∙ e ∙ area_digits y g in
    lt_irrefl (2 ^ 53) (lt_of_le_of_lt (le_trans (lit≤ tt) (sq_mono (2 ^ 53 - 1) c (far p l))) (lt_of_le_of_lt (odd_part (c * c) g.m (i + i) (g.j + 1076) o h) g.small))
  where
    odd : (p : ℕ) → (2 * p + 1) * (2 * p + 1) % 2 ≡ 1
    odd p = omega arith

    far : (p : ℕ) → 2 ^ 52 ≤ suc p → 2 ^ 53 - 1 ≤ 2 * p + 1
    far p l = omega arith

-- the middle below q * 2 ^ i and the one above it
half-below : (p h : ℕ) → 2 * (suc p * h) ≡ (2 * p + 1) * h + h
half-below p h = omega arith

half-above : (q h : ℕ) → 2 * (q * h) + h ≡ (2 * q + 1) * h
half-above q h = omega arith

-- ---- a value above the root
nearer_above : (y z : Float) → T (positive y) → T (fits binary64 y) → T (positive z) → T (fits binary64 z) → steps (sqrt_of y) < steps z → area y < middle (sqrt_of y) z * middle (sqrt_of y) z
nearer_above y z p f q k h =
    let G = steps (sqrt_of y) in
    let Z = steps z in
    let r = rounded y p f in
    let i = r.i in
    let t = multiple z (on_grid z q k) i (le_trans r.normal (le_of_lt h)) in
    let gap : G + 2 ^ i ≤ Z =
    subst (λ (x : ℕ). x + 2 ^ i ≤ Z) (sym r.is) (subst (λ (x : ℕ). r.q * 2 ^ i + 2 ^ i ≤ x) (sym t.1) (apart r.q t.0 (2 ^ i) (subst (λ (x : ℕ). r.q * 2 ^ i < x) t.1 (subst (λ (x : ℕ). x < Z) r.is h)))) in
    let c = (2 * r.q + 1) * 2 ^ i in
    let c-is : 2 * G + 2 ^ i ≡ c = ap (λ (x : ℕ). 2 * x + 2 ^ i) r.is ∙ half-above r.q (2 ^ i) in
    lt_of_lt_of_le (lt_of_le-ne (at_most (area y) c (wide (twice_root (area y)) G (2 ^ i) c c-is r.over)) (λ (e : area y ≡ c * c). no_tie y (on_grid y p f) r.q i (le-suc r.digits) (sym e)))
    (sq_mono c (G + Z) (reaches G Z (2 ^ i) c c-is gap))
  where
    wide : (a G h c : ℕ) → 2 * G + h ≡ c → a ≤ 4 * G + 2 * h → a ≤ 2 * c
    wide a G h c e k = omega arith

    reaches : (G Z h c : ℕ) → 2 * G + h ≡ c → G + h ≤ Z → c ≤ G + Z
    reaches G Z h c e k = omega arith

    le-suc : {a b : ℕ} → a ≤ b → a ≤ suc b
    le-suc {a} {b} l = omega arith

-- ---- a value below the root
nearer_below : (y z : Float) → T (positive y) → T (fits binary64 y) → T (positive z) → T (fits binary64 z) → steps z < steps (sqrt_of y) → middle (sqrt_of y) z * middle (sqrt_of y) z < area y
nearer_below y z p f q k h = go (dec_le F Z)
  where
    G : ℕ
    G = steps (sqrt_of y)

    Z : ℕ
    Z = steps z

    r : Rounded (area y) G
    r = rounded y p f

    F : ℕ
    F = 2 ^ 52 * 2 ^ r.i

    -- at least 2 ^ i below
    apart_from : (s : ℕ) → s ≡ r.q → Z + 2 ^ r.i ≤ G → (G + Z) * (G + Z) < area y
    apart_from zero e l = absurd (none (subst (λ (x : ℕ). 2 ^ 52 ≤ x) (sym e) r.digits))
      where
        none : 2 ^ 52 ≤ 0 → ⊥
        none l = omega arith
    apart_from (suc t) e l =
        let c = (2 * t + 1) * 2 ^ r.i in
        let c-is : 2 * G ≡ c + 2 ^ r.i = ap (λ (x : ℕ). 2 * x) (r.is ∙ ap (λ (x : ℕ). x * 2 ^ r.i) (sym e)) ∙ half-below t (2 ^ r.i) in
        lt_of_le_of_lt (sq_mono (G + Z) c (under G Z (2 ^ r.i) c c-is l))
        (lt_of_le-ne (at_least (area y) c (narrow G (2 ^ r.i) c (twice_root (area y)) c-is r.under)) (λ (x : c * c ≡ area y). no_tie y (on_grid y p f) t r.i (subst (λ (x : ℕ). 2 ^ 52 ≤ x) (sym e) r.digits) x))
      where
        under : (G Z h c : ℕ) → 2 * G ≡ c + h → Z + h ≤ G → G + Z ≤ c
        under G Z h c e l = omega arith

        narrow : (G h c a : ℕ) → 2 * G ≡ c + h → 4 * G ≤ a + 2 * h → 2 * c ≤ a
        narrow G h c a e l = omega arith

    -- below the power of two that the root is
    under_first : Z < F → F ≡ G → (G + Z) * (G + Z) < area y
    under_first l e = lt_of_lt_of_le (mul-lt (G + Z) (G + Z) (2 * F) (2 * F) (less F G Z l e) (less F G Z l e)) (at_least (area y) (2 * F) (le_trans (le_of_eq (four F)) r.first))
      where
        less : (F G Z : ℕ) → Z < F → F ≡ G → G + Z < 2 * F
        less F G Z l e = omega arith

        four : (F : ℕ) → 2 * (2 * F) ≡ 4 * F
        four F = omega arith

    far : (F G Z h : ℕ) → Z < F → F + h ≤ G → Z + h ≤ G
    far F G Z h k l = omega arith

    go : Dec (F ≤ Z) → (G + Z) * (G + Z) < area y
    go (yes l) =
        let t = multiple z (on_grid z q k) r.i l in
        apart_from r.q refl
        (subst (λ (x : ℕ). x + 2 ^ r.i ≤ G) (sym t.1) (subst (λ (x : ℕ). t.0 * 2 ^ r.i + 2 ^ r.i ≤ x) (sym r.is) (apart t.0 r.q (2 ^ r.i) (subst (λ (x : ℕ). t.0 * 2 ^ r.i < x) r.is (subst (λ (x : ℕ). x < G) t.1 h)))))
    go (no l) = elim (eq-or-lt_of_le r.normal) [
      | inl e ↦ under_first (lt_of_not-le l) e
      | inr g ↦ apart_from r.q refl (far F G Z (2 ^ r.i) (lt_of_not-le l) (subst (λ (x : ℕ). F + 2 ^ r.i ≤ x) (sym r.is) (apart (2 ^ 52) r.q (2 ^ r.i) (subst (λ (x : ℕ). F < x) r.is g))))
    ]

-- ---- the theorem
pub sqrt_nearest : (y : Float) → T (positive y) → T (fits binary64 y) → Nearest y (sqrt_of y)
sqrt_nearest y p f = record { above = λ z q k h. nearer_above y z p f q k h; below = λ z q k h. nearer_below y z p f q k h }
