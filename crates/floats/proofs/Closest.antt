-- The nearest whole number to a fraction, from two strict bounds; and the fraction that stands for a square root, from bounds on the root. Assumes nothing.
use Rattle.std.proofs.Common.{◌≡◌, ℕ, suc, ◌+◌, ◌*◌, ◌/◌, ◌%◌, ◌<◌, ◌≤◌, Bool, true, false, not, T, eqb, ◌⊎◌, sym, refl, ap, ◌∙◌, subst, inl, inr, le_trans, le_refl, lt_of_lt_of_le, le_of_suc-le-suc, le_of_lt, lt_irrefl, mod-lt, suc-mul, le_antisymm, lt_of_mul-lt-mul_right, div-add-mod', eq-zero-or-pos, arith, eqb→eq, leb→le}
use Prim.Native.Nat.{compare, Ordering}
use lib.Dec.{is_le, compare_is_eq, nleb→lt, eqb_refl}
use lib.Arith.{lt_of_le-ne}
use lib.Ieee.{nearest}
use lib.Ieee.Fits.{eq→eqb}
use lib.Ieee.Nearest.{closest}
use Rattle.floats.specs.Root.{whole_root, twice_root}
use Rattle.floats.proofs.Whole.{whole-low, whole-high, sq_le, sq_lt}

-- ---- what `compare` says
abbrev pub Cmp : Ordering → ℕ → ℕ → Type 0
Cmp Ordering.lt a b = a < b
Cmp Ordering.eq a b = a ≡ b
Cmp Ordering.gt a b = b < a

pub cmp : (a b : ℕ) → Cmp (compare a b) a b
cmp a b = go (compare a b) (leb→le a b) (nleb→lt a b) (eqb→eq a b) (λ (e : a ≡ b). subst (λ (x : ℕ). T (eqb a x)) e (eqb_refl a))
  where
    go : (o : Ordering) → (T (is_le o) → a ≤ b) → (T (not (is_le o)) → b < a) → (T (compare_is_eq o) → a ≡ b) → (a ≡ b → T (compare_is_eq o)) → Cmp o a b
    go Ordering.lt h k e n = lt_of_le-ne (h tt) n
    go Ordering.eq h k e n = e tt
    go Ordering.gt h k e n = k tt

-- ---- products with B, taken apart
next : (q w B : ℕ) → q * B < w * B + B → q ≤ w
next q w B h = le_of_suc-le-suc (lt_of_mul-lt-mul_right B (subst (λ (x : ℕ). q * B < x) (sym (suc-mul w B)) h))

-- with A = w * B + r, each product with B an atom
at : (o : Ordering) (w q B A r wB qB : ℕ) → Cmp o (r * 2) B → wB + r ≡ A → r < B → 2 * qB < 2 * A + B → 2 * A < 2 * qB + B
    → (qB < wB + B → q ≤ w) → (wB < qB + B → w ≤ q) → (wB < qB → suc w ≤ q) → (qB < wB + B + B → q ≤ suc w) → nearest w o ≡ q
at Ordering.lt w q B A r wB qB c e l lo hi a b f g = le_antisymm (b (omega arith)) (a (omega arith))
at Ordering.eq w q B A r wB qB c e l lo hi a b f g = absurd (lt_irrefl w (le_trans (f (omega arith)) (a (omega arith))))
at Ordering.gt w q B A r wB qB c e l lo hi a b f g = le_antisymm (f (omega arith)) (g (omega arith))

-- (q - 1/2) * B < A < (q + 1/2) * B
pub closest_is : (A B q : ℕ) → 0 < B → 2 * (q * B) < 2 * A + B → 2 * A < 2 * (q * B) + B → closest A B ≡ q
closest_is A B q p lo hi =
    let w = A / B in
    at (compare (A % B * 2) B) w q B A (A % B) (w * B) (q * B) (cmp (A % B * 2) B) (div-add-mod' A B) (mod-lt A p) lo hi
    (next q w B)
    (next w q B)
    (λ h. lt_of_mul-lt-mul_right B h)
    (λ h. next q (suc w) B (subst (λ (x : ℕ). q * B < x + B) (sym (suc-mul w B)) h))

-- ---- the nearest whole number is within a half
near-at : (o : Ordering) (w B A r wB cB : ℕ) → Cmp o (r * 2) B → wB + r ≡ A → r < B → (nearest w o ≡ w → cB ≡ wB) → (nearest w o ≡ suc w → cB ≡ wB + B) → (2 * cB ≤ 2 * A + B) × (2 * A ≤ 2 * cB + B)
near-at Ordering.lt w B A r wB cB c e l f g = let k : cB ≡ wB = f refl in (omega arith, omega arith)
near-at Ordering.eq w B A r wB cB c e l f g = go (parity w)
  where
    parity : (w : ℕ) → (w + w % 2 ≡ w) ⊎ (w + w % 2 ≡ suc w)
    parity w = elim (eq-zero-or-pos (w % 2)) [ inl z ↦ inl (omega arith) | inr p ↦ inr (omega arith) ]

    go : (w + w % 2 ≡ w) ⊎ (w + w % 2 ≡ suc w) → (2 * cB ≤ 2 * A + B) × (2 * A ≤ 2 * cB + B)
    go (inl p) = let k : cB ≡ wB = f p in (omega arith, omega arith)
    go (inr p) = let k : cB ≡ wB + B = g p in (omega arith, omega arith)
near-at Ordering.gt w B A r wB cB c e l f g = let k : cB ≡ wB + B = g refl in (omega arith, omega arith)

pub closest_near : (A B : ℕ) → 0 < B → (2 * (closest A B * B) ≤ 2 * A + B) × (2 * A ≤ 2 * (closest A B * B) + B)
closest_near A B p =
    let w = A / B in
    near-at (compare (A % B * 2) B) w B A (A % B) (w * B) (closest A B * B) (cmp (A % B * 2) B) (div-add-mod' A B) (mod-lt A p)
    (λ e. ap (λ (z : ℕ). z * B) e)
    (λ e. ap (λ (z : ℕ). z * B) e ∙ suc-mul w B)

-- ---- what `twice_root` is
exact : (n : ℕ) → eqb (whole_root n * whole_root n) n ≡ true → twice_root n ≡ 2 * whole_root n
unfolding twice_root
exact n e = rw e (omega arith)

between : (n : ℕ) → eqb (whole_root n * whole_root n) n ≡ false → twice_root n ≡ 2 * whole_root n + 1
unfolding twice_root
between n e = rw e (omega arith)

pub twice_cases : (n : ℕ) → ((whole_root n * whole_root n ≡ n) × (twice_root n ≡ 2 * whole_root n)) ⊎ ((whole_root n * whole_root n ≡ n → ⊥) × (twice_root n ≡ 2 * whole_root n + 1))
twice_cases n = go (eqb (whole_root n * whole_root n) n) refl
  where
    go : (b : Bool) → eqb (whole_root n * whole_root n) n ≡ b → ((whole_root n * whole_root n ≡ n) × (twice_root n ≡ 2 * whole_root n)) ⊎ ((whole_root n * whole_root n ≡ n → ⊥) × (twice_root n ≡ 2 * whole_root n + 1))
    go true e = inl (eqb→eq (whole_root n * whole_root n) n (subst T (sym e) tt), exact n e)
    go false e = inr ((λ k. subst T e (eq→eqb k)), between n e)

-- it is above every 2 * c with c below √n, and below every 2 * d with d above √n
pub twice_above : (n c : ℕ) → c * c < n → 2 * c < twice_root n
twice_above n c h = elim (twice_cases n) [
  | inl k ↦ let l : c < whole_root n = sq_lt c (whole_root n) (c * c) (le_refl (c * c)) (subst (λ (x : ℕ). c * c < x) (sym k.0) h) in omega (arith, k.1)
  | inr k ↦ let l : c ≤ whole_root n = sq_le c (whole_root n) n (le_of_lt h) (whole-high n) in omega (arith, k.1)
]

pub twice_below : (n d : ℕ) → n < d * d → twice_root n < 2 * d
twice_below n d h =
    let l : whole_root n < d = sq_lt (whole_root n) d n (whole-low n) h in
    elim (twice_cases n) [ inl k ↦ omega (arith, k.1) | inr k ↦ omega (arith, k.1) ]

-- at most every 2 * d with d from √n up
pub twice_at-most : (n d : ℕ) → n ≤ d * d → twice_root n ≤ 2 * d
twice_at-most n d h = elim (twice_cases n) [
  | inl k ↦ let l : whole_root n ≤ d = sq_le (whole_root n) d (d * d) (le_trans (whole-low n) h) (omega arith) in omega (arith, k.1)
  | inr k ↦ let l : whole_root n < d = sq_lt (whole_root n) d (whole_root n * whole_root n) (le_refl (whole_root n * whole_root n)) (lt_of_lt_of_le (lt_of_le-ne (whole-low n) k.0) h) in omega (arith, k.1)
]

-- and at least every 2 * c with c up to √n
pub twice_reaches : (n c : ℕ) → c * c ≤ n → 2 * c ≤ twice_root n
twice_reaches n c h =
    let l : c ≤ whole_root n = sq_le c (whole_root n) n h (whole-high n) in
    elim (twice_cases n) [ inl k ↦ omega (arith, k.1) | inr k ↦ omega (arith, k.1) ]
