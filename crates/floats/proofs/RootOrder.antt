-- The square root from zero up: its sign is clear, it is finite, and it stands against a value by their squares (`root-at-least`, `root-at-most`: the laws `below_root` and
-- `above_root` with zeros allowed). And u ≤ √(2·u) for a u from 0 to 2. That it is monotone is `sqrt_mono_up`. Assumes nothing.
use Rattle.std.proofs.Common.{◌≡◌, ℕ, zero, suc, ◌*◌, ◌^◌, ◌<◌, ◌≤◌, false, T, sym, ap, ◌∙◌, subst, inl, inr, le_trans, le_of_eq, lt_of_lt_of_le, lt_of_le_of_lt, lt_irrefl, mul-le-mul_right, zero-lt-suc, mul_assoc, mul_comm, mul-le-mul_left, mul-lt-mul_of_pos_right, mul-pos, zero-mul, mul-one, mul_right_comm, lit<, lt→ltb}
use lib.Ieee.{Float, fin, binary64, le, fits, of_bits}
use lib.Ieee.Fits.{up_pos, mul-fits}
use lib.Ieee.Exact.{HasValue}
use lib.Ieee.Positive.{num, den, den_pos, positive, value→cross}
use Rattle.floats.specs.Binary64.{◌⊗◌, two}
use Rattle.floats.specs.Root.{sqrt_of}
use Rattle.floats.proofs.Laws.{SquareLe, LeSquare, sqrt-zero, sqrt_clear, sqrt_positive, below_root, above_root}
use Rattle.floats.proofs.Order.{clear, nonneg, NonNeg, value, Clear, top, finite, nonneg_case, clear_case, positive→nonneg, zero-or_positive, num_pos, nonneg_of_value, le→fractions, fractions→le, at_zero}
use Rattle.floats.proofs.Monotone.{double_exact}

-- ---- its sign and its size
pub root_clear : (y : Float) → T (clear y) → T (clear (sqrt_of y))
root_clear y p = go (clear_case y p)
  where
    go : {y : Float} → Clear y → T (clear (sqrt_of y))
    go top = unfold sqrt_of in tt
    go (finite (value zero e)) = unfold sqrt_of in tt
    go (finite (value (suc m) e)) = sqrt_clear (fin false (suc m) e) (lt→ltb 0 (suc m) (zero-lt-suc m))

-- the root of a zero is that zero
root-of-zero : (y : Float) → T (nonneg y) → num y ≡ 0 → sqrt_of y ≡ y
root-of-zero y p z = go (nonneg_case y p) z
  where
    go : {y : Float} → NonNeg y → num y ≡ 0 → sqrt_of y ≡ y
    go (value zero e) z = sqrt-zero false e
    go (value (suc m) e) z = absurd (lt_irrefl 0 (subst (λ (k : ℕ). 0 < k) z (mul-pos (zero-lt-suc m) (up_pos e))))

pub root_nonneg : (y : Float) → T (nonneg y) → T (fits binary64 y) → T (nonneg (sqrt_of y))
root_nonneg y p t =
    elim (zero-or_positive y p) [ inl z ↦ subst (λ (w : Float). T (nonneg w)) (sym (root-of-zero y p z)) p | inr q ↦ positive→nonneg (sqrt_of y) (sqrt_positive y q t) ]

-- ---- x against √y, by x * x and y
positive_by : (x : Float) → T (nonneg x) → (num x ≡ 0 → ⊥) → T (positive x)
positive_by x p h = elim (zero-or_positive x p) [ inl z ↦ absurd (h z) | inr q ↦ q ]

-- what is at least a number above zero is no 0 * d
not_under : (a b d : ℕ) → 0 < a → a ≤ b * d → b ≡ 0 → ⊥
not_under a b d A h z = lt_irrefl 0 (lt_of_lt_of_le A (le_trans h (le_of_eq (ap (λ (k : ℕ). k * d) z ∙ zero-mul d))))

pub root-at-least : (x y : Float) → T (nonneg x) → T (fits binary64 x) → T (nonneg y) → T (fits binary64 y) → SquareLe x y → T (le x (sqrt_of y))
root-at-least x y p s q t h =
    elim (zero-or_positive x p) [
      | inl z ↦ fractions→le x (sqrt_of y) p (root_nonneg y q t) (at_zero (num x * den (sqrt_of y)) (num (sqrt_of y) * den x) (ap (λ (k : ℕ). k * den (sqrt_of y)) z ∙ zero-mul (den (sqrt_of y))))
      | inr X ↦ below_root x y X s (positive_by y q (not_under (num x * num x * den y) (num y) (den x * den x) (mul-pos (mul-pos (num_pos x X) (num_pos x X)) (den_pos y)) h)) h
    ]

pub root-at-most : (x y : Float) → T (nonneg x) → T (fits binary64 x) → T (nonneg y) → LeSquare y x → T (le (sqrt_of y) x)
root-at-most x y p s q h =
    elim (zero-or_positive y q) [
      | inl z ↦ subst (λ (w : Float). T (le w x)) (sym (root-of-zero y q z)) (fractions→le y x q p (at_zero (num y * den x) (num x * den y) (ap (λ (k : ℕ). k * den x) z ∙ zero-mul (den x))))
      | inr Y ↦ above_root x y (positive_by x p (not_under (num y * (den x * den x)) (num x) (num x * den y) (mul-pos (num_pos y Y) (mul-pos (den_pos x) (den_pos x))) (le_trans h (le_of_eq (mul_assoc (num x) (num x) (den y)))))) s Y h
    ]

-- ---- u ≤ √(2·u) for u up to 2
pub root-of_double : (u : Float) → T (nonneg u) → T (fits binary64 u) → T (le u two) → T (le u (sqrt_of (two ⊗ u)))
unfolding of_bits
root-of_double u p t l =
    let y = two ⊗ u in
    let X = num u in
    let D = den u in
    let h : X ≤ D * 2 = le_trans (le_of_eq (sym (mul-one X))) (le_trans (le→fractions u two p tt l) (le_of_eq (mul_comm 2 D))) in
    let v : HasValue y false (X * 2) D = double_exact binary64 u p t (room X D (den_pos u) h) in
    let c : num y * D ≡ X * 2 * den y = value→cross y (X * 2) D v in
    root-at-least u y p t (nonneg_of_value y (X * 2) D v) (mul-fits binary64 two u)
    (le_trans (mul-le-mul_right (den y) (mul-le-mul_left X h))
    (le_of_eq (ap (λ (z : ℕ). X * z * den y) (mul_comm D 2) ∙ shuffle X D (den y) ∙ ap (λ (z : ℕ). z * D) (sym c) ∙ mul_assoc (num y) D D)))
  where
    room : (n d : ℕ) → 0 < d → n ≤ d * 2 → n * 2 < 2 ^ 1024 * d
    room n d D h = lt_of_le_of_lt (le_trans (mul-le-mul_right 2 h) (le_of_eq (mul_assoc d 2 2 ∙ mul_comm d 4))) (mul-lt-mul_of_pos_right (lit< tt) D)

    shuffle : (x d q : ℕ) → x * (2 * d) * q ≡ x * 2 * q * d
    shuffle x d q = ap (λ (z : ℕ). z * q) (sym (mul_assoc x 2 d)) ∙ mul_right_comm (x * 2) d q
