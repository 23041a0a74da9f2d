-- Sum, difference, product and quotient of values of a clear sign: each is the rounding of one fraction (`add_is` and its like), its sign is clear, and it goes with the
-- order of its operands. Then x / y ≤ 1 for x ≤ y, and twice a value is exact. Assumes nothing.
use Rattle.std.proofs.Common.{◌≡◌, ℕ, suc, ◌+◌, ◌-◌, ◌*◌, ◌^◌, ◌<◌, ◌≤◌, Bool, true, false, cond, not, T, eqb, ltb, ℤ, sym, refl, ap, ◌∙◌, subst, le_trans, le_of_eq, lt_irrefl, mul-le-mul_right, mul_comm, mul-le-mul, mul-pos, one-mul, mul-one, not-le_of_lt, arith, eqb→eq, ltb→lt}
use native.Mathlib.Nat.{mul-mul-mul_comm}
use lib.Dec.{not_T}
use lib.Ieee.{Float, nan, inf, fin, Format, binary32, binary64, emax, up, down, round, sum, neg, add, sub, mul, div, le, fits, of_bits}
use lib.Ieee.Bits.{is_false}
use lib.Ieee.Exact.{HasValue}
use lib.Ieee.Positive.{num, den, den_pos, positive, above}
use Rattle.floats.specs.Binary64.{one, two}
use Rattle.floats.proofs.Fit.{scaled_exact}
use Rattle.floats.proofs.Order.{clear, nonneg, NonNeg, value, Clear, top, finite, nonneg_case, clear_case, nonneg→clear, clear→number, positive→nonneg, num_pos, le→fractions, le_self, infinity_greatest, round_clear, round-at-least, round-at-most, between_rounds}

pub one-fits : (f : Format) → T (fits f one)
unfolding fits of_bits
one-fits binary32 = tt
one-fits binary64 = tt

pub two_fits : (f : Format) → T (fits f two)
unfolding fits of_bits
two_fits binary32 = tt
two_fits binary64 = tt

-- ---- the sum
pub add_is : (f : Format) (x y : Float) → T (nonneg x) → T (nonneg y) → add f x y ≡ round f false (num x * den y + num y * den x) (den x * den y)
unfolding add
add_is f x y p q = go (nonneg_case x p) (nonneg_case y q)
  where
    go : {x y : Float} → NonNeg x → NonNeg y → add f x y ≡ round f false (num x * den y + num y * den x) (den x * den y)
    go (value m e) (value n d) = refl

-- what every rounding of a clear sign and the infinity have, a sum of clear signs has
add-by : (f : Format) (P : Float → Type 0) (x y : Float) → T (clear x) → T (clear y) → P (inf false) → (T (nonneg x) → T (nonneg y) → P (round f false (num x * den y + num y * den x) (den x * den y))) → P (add f x y)
add-by f P x y p q i r = go (clear_case x p) (clear_case y q) r
  where
    left : {y : Float} → Clear y → inf false ≡ add f (inf false) y
    left top = unfold add in refl
    left (finite (value n d)) = unfold add in refl

    right : {x : Float} → NonNeg x → inf false ≡ add f x (inf false)
    right (value m e) = unfold add in refl

    go : {x y : Float} → Clear x → Clear y → (T (nonneg x) → T (nonneg y) → P (round f false (num x * den y + num y * den x) (den x * den y))) → P (add f x y)
    go top v r = subst P (left v) i
    go (finite u) top r = subst P (right u) i
    go (finite (value m e)) (finite (value n d)) r = subst P (sym (add_is f (fin false m e) (fin false n d) tt tt)) (r tt tt)

pub add_clear : (f : Format) (x y : Float) → T (clear x) → T (clear y) → T (clear (add f x y))
add_clear f x y p q = add-by f (λ (z : Float). T (clear z)) x y p q tt (λ (u : T (nonneg x)) (v : T (nonneg y)). round_clear f (num x * den y + num y * den x) (den x * den y))

-- z / r is at most a / p, or at most b / q: it is at most their sum
sum_left : (z r a p b q : ℕ) → z * p ≤ a * r → z * (p * q) ≤ (a * q + b * p) * r
sum_left z r a p b q h = let k : z * p * q ≤ a * r * q = mul-le-mul_right q h in omega arith

sum_right : (z r a p b q : ℕ) → z * q ≤ b * r → z * (p * q) ≤ (a * q + b * p) * r
sum_right z r a p b q h = let k : z * q * p ≤ b * r * p = mul-le-mul_right p h in omega arith

-- a value that fits and is at most one summand is at most the sum
pub add-above_l : (f : Format) (z x y : Float) → T (nonneg z) → T (fits f z) → T (clear x) → T (clear y) → T (le z x) → T (le z (add f x y))
add-above_l f z x y r t p q h =
    add-by f (λ (w : Float). T (le z w)) x y p q (infinity_greatest z (nonneg→clear z r))
    (λ (u : T (nonneg x)) (v : T (nonneg y)).
    round-at-least f z (num x * den y + num y * den x) (den x * den y) r t (mul-pos (den_pos x) (den_pos y)) (sum_left (num z) (den z) (num x) (den x) (num y) (den y) (le→fractions z x r u h)))

pub add-above-r : (f : Format) (z x y : Float) → T (nonneg z) → T (fits f z) → T (clear x) → T (clear y) → T (le z y) → T (le z (add f x y))
add-above-r f z x y r t p q h =
    add-by f (λ (w : Float). T (le z w)) x y p q (infinity_greatest z (nonneg→clear z r))
    (λ (u : T (nonneg x)) (v : T (nonneg y)).
    round-at-least f z (num x * den y + num y * den x) (den x * den y) r t (mul-pos (den_pos x) (den_pos y)) (sum_right (num z) (den z) (num x) (den x) (num y) (den y) (le→fractions z y r v h)))

-- x ≤ x + y, and y ≤ x + y
pub add_grows_l : (f : Format) (x y : Float) → T (nonneg x) → T (fits f x) → T (clear y) → T (le x (add f x y))
add_grows_l f x y p t q = let c = nonneg→clear x p in add-above_l f x x y p t c q (le_self x (clear→number x c))

pub add_grows_r : (f : Format) (x y : Float) → T (clear x) → T (nonneg y) → T (fits f y) → T (le y (add f x y))
add_grows_r f x y p q t = let c = nonneg→clear y q in add-above-r f y x y q t p c (le_self y (clear→number y c))

-- it is monotone
pub add_mono : (f : Format) (x x' y y' : Float) → T (nonneg x) → T (nonneg x') → T (nonneg y) → T (nonneg y') → T (le x x') → T (le y y') → T (le (add f x y) (add f x' y'))
add_mono f x x' y y' p p' q q' h k =
    between_rounds f (add f x y) (add f x' y') (num x * den y + num y * den x) (den x * den y) (num x' * den y' + num y' * den x') (den x' * den y') (add_is f x y p q) (add_is f x' y' p' q')
    (mul-pos (den_pos x) (den_pos y)) (mul-pos (den_pos x') (den_pos y'))
    (sums (num x) (den x) (num x') (den x') (num y) (den y) (num y') (den y') (le→fractions x x' p p' h) (le→fractions y y' q q' k))
  where
    -- a / p ≤ a' / p' and b / q ≤ b' / q'
    sums : (a p a' p' b q b' q' : ℕ) → a * p' ≤ a' * p → b * q' ≤ b' * q → (a * q + b * p) * (p' * q') ≤ (a' * q' + b' * p') * (p * q)
    sums a p a' p' b q b' q' h k =
        let l : a * p' * (q * q') ≤ a' * p * (q * q') = mul-le-mul_right (q * q') h in
        let r : b * q' * (p * p') ≤ b' * q * (p * p') = mul-le-mul_right (p * p') k in
        omega arith

-- ---- the difference x - y, for y ≤ x
difference : (f : Format) (a b c : ℕ) → b ≤ a → sum f false a true b c ≡ round f false (a - b) c
unfolding sum
difference f a b c h = go (ltb a b) (ltb→lt a b)
  where
    go : (t : Bool) → (T t → a < b) → cond t (round f true (b - a) c) (round f false (a - b) c) ≡ round f false (a - b) c
    go true k = absurd (not-le_of_lt (k tt) h)
    go false k = refl

opened : (f : Format) (m : ℕ) (e : ℤ) (n : ℕ) (d : ℤ) → sub f (fin false m e) (fin false n d) ≡ sum f false (m * up e * down d) true (n * up d * down e) (down e * down d)
unfolding sub
opened f m e n d = refl

pub sub_is : (f : Format) (x y : Float) → T (nonneg x) → T (nonneg y) → T (le y x) → sub f x y ≡ round f false (num x * den y - num y * den x) (den x * den y)
sub_is f x y p q h = go (nonneg_case x p) (nonneg_case y q) (le→fractions y x q p h)
  where
    go : {x y : Float} → NonNeg x → NonNeg y → num y * den x ≤ num x * den y → sub f x y ≡ round f false (num x * den y - num y * den x) (den x * den y)
    go (value m e) (value n d) h = opened f m e n d ∙ difference f (m * up e * down d) (n * up d * down e) (down e * down d) h

pub sub_clear : (f : Format) (x y : Float) → T (nonneg x) → T (nonneg y) → T (le y x) → T (clear (sub f x y))
sub_clear f x y p q h = subst (λ (z : Float). T (clear z)) (sym (sub_is f x y p q h)) (round_clear f (num x * den y - num y * den x) (den x * den y))

-- x + -y is x - y, and x - -y is x + y
pub add-neg : (f : Format) (x y : Float) → add f x (neg y) ≡ sub f x y
unfolding sub
add-neg f x y = refl

pub sub-neg : (f : Format) (x : Float) (m : ℕ) (e : ℤ) → sub f x (fin true m e) ≡ add f x (fin false m e)
unfolding sub
sub-neg f x m e = refl

-- ---- the product
pub mul_is : (f : Format) (x y : Float) → T (nonneg x) → T (nonneg y) → mul f x y ≡ round f false (num x * num y) (den x * den y)
unfolding mul
mul_is f x y p q = go (nonneg_case x p) (nonneg_case y q)
  where
    go : {x y : Float} → NonNeg x → NonNeg y → mul f x y ≡ round f false (num x * num y) (den x * den y)
    go (value m e) (value n d) = refl

pub mul_clear : (f : Format) (x y : Float) → T (nonneg x) → T (nonneg y) → T (clear (mul f x y))
mul_clear f x y p q = subst (λ (z : Float). T (clear z)) (sym (mul_is f x y p q)) (round_clear f (num x * num y) (den x * den y))

pub mul_mono : (f : Format) (x x' y y' : Float) → T (nonneg x) → T (nonneg x') → T (nonneg y) → T (nonneg y') → T (le x x') → T (le y y') → T (le (mul f x y) (mul f x' y'))
mul_mono f x x' y y' p p' q q' h k =
    between_rounds f (mul f x y) (mul f x' y') (num x * num y) (den x * den y) (num x' * num y') (den x' * den y') (mul_is f x y p q) (mul_is f x' y' p' q')
    (mul-pos (den_pos x) (den_pos y)) (mul-pos (den_pos x') (den_pos y'))
    (le_trans (le_of_eq (mul-mul-mul_comm (num x) (num y) (den x') (den y')))
    (le_trans (mul-le-mul (le→fractions x x' p p' h) (le→fractions y y' q q' k)) (le_of_eq (mul-mul-mul_comm (num x') (den x) (num y') (den y)))))

-- twice a value that fits is exact, unless it overflows
pub double_exact : (f : Format) (x : Float) → T (nonneg x) → T (fits f x) → num x * 2 < 2 ^ suc (emax f) * den x → HasValue (mul f two x) false (num x * 2) (den x)
unfolding of_bits
double_exact f x p t h = go (nonneg_case x p) t h
  where
    go : {x : Float} → NonNeg x → T (fits f x) → num x * 2 < 2 ^ suc (emax f) * den x → HasValue (mul f two x) false (num x * 2) (den x)
    go (value m e) t h =
        subst (λ (z : Float). HasValue z false (m * up e * 2) (down e))
        (ap (λ (z : ℕ). round f false z (down e)) (mul_comm (m * up e) 2) ∙ ap (λ (z : ℕ). round f false (2 * (m * up e)) z) (sym (one-mul (down e))) ∙ sym (mul_is f two (fin false m e) tt tt))
        (scaled_exact f false m e 1 t h)

-- ---- the quotient by a value above zero
not-zero : (n : ℕ) → 0 < n → T (not (eqb n 0))
not-zero n h = not_T (eqb n 0) (λ (t : T (eqb n 0)). lt_irrefl 0 (subst (λ (z : ℕ). 0 < z) (eqb→eq n 0 t) h))

pub div_is : (f : Format) (x y : Float) → T (nonneg x) → T (positive y) → div f x y ≡ round f false (num x * den y) (num y * den x)
unfolding div
div_is f x y p q = go (nonneg_case x p) (nonneg_case y (positive→nonneg y q)) q
  where
    go : {x y : Float} → NonNeg x → NonNeg y → T (positive y) → div f x y ≡ round f false (num x * den y) (num y * den x)
    go (value m e) (value n d) q = ap (λ (b : Bool). cond b (cond (eqb m 0) nan (inf false)) (round f false (m * up e * down d) (n * up d * down e))) (is_false (eqb n 0) (not-zero n (ltb→lt 0 n q)))

pub div_clear : (f : Format) (x y : Float) → T (nonneg x) → T (positive y) → T (clear (div f x y))
div_clear f x y p q = subst (λ (z : Float). T (clear z)) (sym (div_is f x y p q)) (round_clear f (num x * den y) (num y * den x))

-- it grows with x, and shrinks as y grows
pub div_mono : (f : Format) (x x' y y' : Float) → T (nonneg x) → T (nonneg x') → T (positive y) → T (positive y') → T (le x x') → T (le y' y) → T (le (div f x y) (div f x' y'))
div_mono f x x' y y' p p' q q' h k =
    between_rounds f (div f x y) (div f x' y') (num x * den y) (num y * den x) (num x' * den y') (num y' * den x') (div_is f x y p q) (div_is f x' y' p' q')
    (mul-pos (num_pos y q) (den_pos x)) (mul-pos (num_pos y' q') (den_pos x'))
    (quotients (num x) (den x) (num x') (den x') (num y) (den y) (num y') (den y') (le→fractions x x' p p' h) (le→fractions y' y (positive→nonneg y' q') (positive→nonneg y q) k))
  where
    quotients : (a p a' p' b q b' q' : ℕ) → a * p' ≤ a' * p → b' * q ≤ b * q' → a * q * (b' * p') ≤ a' * q' * (b * p)
    quotients a p a' p' b q b' q' h k = let l : a * p' * (b' * q) ≤ a' * p * (b * q') = mul-le-mul h k in omega arith

-- 0 ≤ x / y ≤ 1 for x ≤ y, where y may be the infinity
pub div_unit : (f : Format) (x y : Float) → T (nonneg x) → T (above y) → T (le x y) → T (clear (div f x y)) × T (le (div f x y) one)
unfolding of_bits
div_unit f x nan p q h = absurd q
div_unit f x (inf true) p q h = absurd q
div_unit f x (inf false) p q h = go (nonneg_case x p)
  where
    go : {x : Float} → NonNeg x → T (clear (div f x (inf false))) × T (le (div f x (inf false)) one)
    go (value m e) = unfold div le in (tt, tt)
div_unit f x (fin true n d) p q h = absurd q
div_unit f x (fin false n d) p q h =
    let y = fin false n d in (
      div_clear f x y p q,
      subst (λ (z : Float). T (le z one)) (sym (div_is f x y p q))
          (round-at-most f one (num x * den y) (num y * den x) tt (one-fits f) (mul-pos (num_pos y q) (den_pos x))
          (le_trans (le_of_eq (mul-one (num x * den y))) (le_trans (le→fractions x y p tt h) (le_of_eq (sym (one-mul (num y * den x))))))),
    )
