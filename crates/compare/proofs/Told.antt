-- What differs, as a test and as a proposition, and that it can be read off its number. Assumes nothing.
use mathlib.Core.Path.{◌≡◌, refl, sym, ap, ◌∙◌}
use mathlib.Core.Logic.{◌↔◌, ◌⊎◌, inl, inr, ⊎_elim}
use mathlib.Core.Bool.{Bool, true, false, not, beq, false≢true}
use Prim.Native.Nat.{ℕ, ◌+◌, ◌-◌, ◌*◌, ◌≤◌, ◌<◌}
use native.Mathlib.Omega.{arith}
use borrow.Author.Tests.{eqb-true, eqb-false, eq-eqb, ne_eqb, not-true, not-false}
use lib.Dec.{T, eqb}
use lib.Ieee.{Float, binary64, to_bits, of_bits, fits}
use lib.Ieee.Bits.{of_bits-to_bits}
use Rattle.std.specs.Int.{from_bool}
use Rattle.floats.specs.Choice.{when◌give◌else◌, ◌or◌}
use Rattle.refusals.proofs.First.{by_test}
use Rattle.compare.specs.declared.Fields.{Fields}
use Rattle.compare.specs.Compare.{differ, any_of, bit_of, code_of, shared, unmatched, marks_differ}
use Rattle.compare.specs.Claim.{Differ}

-- ---- tests

-- a test of two numbers for being unequal
pub unequal_told : (m n : ℕ) → (not (eqb m n) ≡ true) ↔ (m ≡ n → ⊥)
unequal_told m n = (
  λ (t : not (eqb m n) ≡ true). eqb-false m n (not-true _ t),
  λ (h : m ≡ n → ⊥). ap not (ne_eqb m n h),
)

pub unequal_not : (m n : ℕ) → not (eqb m n) ≡ false → m ≡ n
unequal_not m n t = eqb-true m n (not-false _ t)

pub equal-not : (m n : ℕ) → m ≡ n → not (eqb m n) ≡ false
equal-not m n e = ap not (eq-eqb m n e)

pub differ-told : (x y : Float) → (differ x y ≡ true) ↔ Differ x y
unfolding differ
differ-told x y = unequal_told (to_bits binary64 x) (to_bits binary64 y)

-- two doubles that do not differ are one
pub alike : (x y : Float) → T (fits binary64 x) → T (fits binary64 y) → differ x y ≡ false → x ≡ y
unfolding differ
alike x y f g t = sym (of_bits-to_bits binary64 x f) ∙ ap (of_bits binary64) (unequal_not _ _ t) ∙ of_bits-to_bits binary64 y g

pub never_differs : (x y : Float) → x ≡ y → differ x y ≡ false
unfolding differ
never_differs x y e = equal-not _ _ (ap (to_bits binary64) e)

-- a test is settled by what it says
pub settled : {P : Type 0} (a b : Bool) → (a ≡ true) ↔ P → (b ≡ true) ↔ P → a ≡ b
settled a b p q =
    by_test a (λ (t : a ≡ true). t ∙ sym (q.1 (p.0 t)))
    (λ (t : a ≡ false). by_test b (λ (u : b ≡ true). let z : true ≡ false = sym (p.1 (q.0 u)) ∙ t in cc) (λ (u : b ≡ false). t ∙ sym u))

-- ---- one of four

or-told : (a b : Bool) → ((a or b) ≡ true) ↔ ((a ≡ true) ⊎ (b ≡ true))
unfolding ◌or◌
or-told true b = (λ e. inl refl, λ h. refl)
or-told false b = (inr, ⊎_elim (λ e. let z : true ≡ false = sym e in cc) (λ e. e))

or-none : (a b : Bool) → (a or b) ≡ false → (a ≡ false) × (b ≡ false)
unfolding ◌or◌
or-none true b e = let z : true ≡ false = e in (e, cc)
or-none false b e = (refl, e)

pub any_told : (f : Fields) → (any_of f ≡ true) ↔ ((f.x ≡ true) ⊎ (f.y ≡ true) ⊎ (f.bulge ≡ true) ⊎ (f.flag ≡ true))
unfolding any_of
any_told f = (
  λ t. ⊎_elim inl (λ u. inr (⊎_elim inl (λ w. inr ((or-told _ _).0 w)) ((or-told _ _).0 u))) ((or-told _ _).0 t),
  λ h. (or-told _ _).1 (⊎_elim inl (λ u. inr ((or-told _ _).1 (⊎_elim inl (λ w. inr ((or-told _ _).1 w)) u))) h),
)

pub none_told : (f : Fields) → any_of f ≡ false → (f.x ≡ false) × (f.y ≡ false) × (f.bulge ≡ false) × (f.flag ≡ false)
unfolding any_of
none_told f t =
    let x = or-none _ _ t in
    let y = or-none _ _ x.1 in
    let b = or-none _ _ y.1 in
    (x.0, y.0, b.0, b.1)

pub none_any : (f : Fields) → f.x ≡ false → f.y ≡ false → f.bulge ≡ false → f.flag ≡ false → any_of f ≡ false
unfolding any_of ◌or◌
none_any f p q r s = rw (p, q, r, s)

-- ---- as one number

-- a test as a byte, as the code has it
pub bit-byte : (b : Bool) → from_bool b ≡ bit_of b 1
unfolding when◌give◌else◌
bit-byte true = refl
bit-byte false = refl

pub byte-most : (b : Bool) → from_bool b ≤ 1
byte-most true = omega arith
byte-most false = omega arith

bit-one : (b : Bool) → bit_of b 1 ≤ 1
unfolding when◌give◌else◌
bit-one true = omega arith
bit-one false = omega arith

pub bit_times : (b : Bool) (n : ℕ) → bit_of b n ≡ n * bit_of b 1
unfolding when◌give◌else◌
bit_times true n = omega arith
bit_times false n = omega arith

bit-same : (b d : Bool) → bit_of b 1 ≡ bit_of d 1 → b ≡ d
unfolding when◌give◌else◌
bit-same true true e = refl
bit-same true false e = absurd (omega arith)
bit-same false true e = absurd (omega arith)
bit-same false false e = refl

halves : (a b m n : ℕ) → a ≤ 1 → b ≤ 1 → a + 2 * m ≡ b + 2 * n → (a ≡ b) × (m ≡ n)
halves a b m n p q e = (omega arith, omega arith)

-- as a number in base 2
binary : (f : Fields) → code_of f ≡ bit_of f.x 1 + 2 * (bit_of f.y 1 + 2 * (bit_of f.bulge 1 + 2 * bit_of f.flag 1))
unfolding code_of
binary f = omega (arith, bit_times f.y 2, bit_times f.bulge 4, bit_times f.flag 8)

pub code-fields : (f g : Fields) → code_of f ≡ code_of g → f ≡ g
code-fields f g e =
    let x = halves _ _ _ _ (bit-one f.x) (bit-one g.x) (sym (binary f) ∙ e ∙ binary g) in
    let y = halves _ _ _ _ (bit-one f.y) (bit-one g.y) x.1 in
    let b = halves _ _ _ _ (bit-one f.bulge) (bit-one g.bulge) y.1 in
    let is : record { x = f.x; y = f.y; bulge = f.bulge; flag = f.flag } ≡ g =
    rw (bit-same f.x g.x x.0, bit-same f.y g.y y.0, bit-same f.bulge g.bulge b.0, bit-same f.flag g.flag b.1) in
    is

-- ---- vertices that only one has, and the marks

pub unmatched-is : (v w : ℕ) → unmatched v w ≡ (v - w) + (w - v)
unfolding unmatched
unmatched-is v w = refl

-- a vertex is one of those that both have
pub below-shared : (v w k : ℕ) → (k < shared v w) ↔ ((k < v) × (k < w))
unfolding shared
below-shared v w k = (λ l. (omega arith, omega arith), λ l. omega arith)

-- as the code tells them apart
pub marks-unequal : (a b : Bool) → not (beq a b) ≡ marks_differ a b
unfolding marks_differ when◌give◌else◌
marks-unequal true true = refl
marks-unequal true false = refl
marks-unequal false true = refl
marks-unequal false false = refl

pub marks-same : (a b : Bool) → marks_differ a b ≡ false → a ≡ b
unfolding marks_differ when◌give◌else◌
marks-same true true e = refl
marks-same true false e = e
marks-same false true e = sym e
marks-same false false e = refl

pub same-marks : (a : Bool) → marks_differ a a ≡ false
unfolding marks_differ when◌give◌else◌
same-marks true = refl
same-marks false = refl

pub marks-told : (a b : Bool) → (marks_differ a b ≡ true) ↔ (a ≡ b → ⊥)
unfolding marks_differ when◌give◌else◌
marks-told true true = (λ e h. false≢true e, λ h. absurd (h refl))
marks-told true false = (λ e h. false≢true (sym h), λ h. refl)
marks-told false true = (λ e h. false≢true h, λ h. refl)
marks-told false false = (λ e h. false≢true e, λ h. absurd (h refl))
