-- `abs_of` by the test of the code: what is not past zero is taken from zero, and the rest stands as it is. Assumes nothing.
use Rattle.std.proofs.Common.{◌≡◌, ℕ, zero, suc, ◌+◌, ◌*◌, ◌<◌, ◌≤◌, Bool, true, false, not, T, ℤ, pos, sym, refl, ap, ◌∙◌, subst, mul-pos, arith}
use lib.Ieee.{Float, nan, inf, fin, binary64, sub, round, lt, le, fits, of_bits, up, down}
use lib.Ieee.Fits.{up_pos}
use Rattle.floats.specs.Size.{abs_of}
use Rattle.floats.proofs.Fit.{zero_says, round_self}
use Rattle.floats.proofs.Order.{nle→lt, le→fractions}
use Rattle.floats.proofs.Monotone.{add_is, sub-neg}

-- 0 less a number below it
from_zero : (m : ℕ) (e : ℤ) → T (fits binary64 (fin false m e)) → sub binary64 (of_bits binary64 0) (fin true m e) ≡ fin false m e
unfolding of_bits
from_zero m e f =
    sub-neg binary64 (fin false 0 (pos 0)) m e
    ∙ add_is binary64 (fin false 0 (pos 0)) (fin false m e) tt tt
    ∙ ap (λ (a : ℕ). round binary64 false a (1 * down e)) (sums (m * up e) (down e))
    ∙ ap (round binary64 false (m * up e)) (once (down e))
    ∙ round_self binary64 false m e f
  where
    sums : (a d : ℕ) → 0 * d + a * 1 ≡ a
    sums a d = omega arith

    once : (d : ℕ) → 1 * d ≡ d
    once d = omega arith

-- 0 less 0
zero_less_zero : sub binary64 (of_bits binary64 0) (fin false 0 (pos 0)) ≡ fin false 0 (pos 0)
unfolding sub of_bits
zero_less_zero = refl

-- no number of a clear sign but 0 is up to 0
only_zero : (m : ℕ) (e : ℤ) → T (le (fin false (suc m) e) (of_bits binary64 0)) → ⊥
unfolding of_bits
only_zero m e h =
    let p : 0 < suc m * up e = mul-pos (omega arith) (up_pos e) in
    let k : suc m * up e * 1 ≤ 0 * down e = le→fractions (fin false (suc m) e) (fin false 0 (pos 0)) tt tt h in
    omega arith

none_below : (m : ℕ) (e : ℤ) → T (lt (of_bits binary64 0) (fin true m e)) → ⊥
unfolding lt of_bits
none_below m e h = h

pub abs_upto : (x : Float) → T (fits binary64 x) → le x (of_bits binary64 0) ≡ true → sub binary64 (of_bits binary64 0) x ≡ abs_of x
unfolding abs_of fits
abs_upto nan f h = unfold sub of_bits in refl
abs_upto (inf true) f h = unfold sub of_bits in refl
abs_upto (inf false) f h = unfold le of_bits in cc
abs_upto (fin true m e) f h = from_zero m e f
abs_upto (fin false zero e) f h = subst (λ (d : ℤ). sub binary64 (of_bits binary64 0) (fin false 0 d) ≡ fin false 0 d) (sym (zero_says binary64 false e f)) zero_less_zero
abs_upto (fin false (suc m) e) f h = absurd (only_zero m e (subst T (sym h) tt))

pub abs-past : (x : Float) → le x (of_bits binary64 0) ≡ false → x ≡ abs_of x
unfolding abs_of of_bits
abs-past nan h = refl
abs-past (inf true) h = unfold le in cc
abs-past (inf false) h = refl
abs-past (fin false m e) h = refl
abs-past (fin true m e) h = absurd (none_below m e (nle→lt (fin true m e) (of_bits binary64 0) tt tt (subst (λ (b : Bool). T (not b)) (sym h) tt)))
