-- π and the coefficients of the three series (01 §3, the lines on π and on atan and tan). Each is written as a fraction and is the double nearest to it: `round binary64 s n d` is n/d,
-- with a minus where s is true, rounded to the nearest. Definitions only.
use Rattle.std.specs.Prelude.{List, [], ◌∷◌, false, ℕ, zero, suc, ◌+◌, ◌*◌, ◌%◌, ◌^◌, eqb, Float}
use Rattle.std.specs.Float.{binary64}
use Rattle.std.specs.Float.Ieee.{round}

-- π to twenty decimals, in units of the last. The decimals that are left out change none of the three doubles (proofs/Tables.antt).
abbrev pub pi_digits : ℕ
pi_digits = 3_14159_26535_89793_23846

abbrev pub pi : Float
pi = round binary64 false pi_digits (10 ^ 20)

abbrev pub half_pi : Float
half_pi = round binary64 false pi_digits (2 * 10 ^ 20)

abbrev pub two_pi : Float
two_pi = round binary64 false (2 * pi_digits) (10 ^ 20)

-- n!
unfoldable pub factorial : ℕ → ℕ
factorial zero = 1
factorial (suc n) = suc n * factorial n

-- (−1)^k / d k for each k below n, the highest k first: the coefficients of a series, the highest power first
unfoldable pub coefficients : (ℕ → ℕ) → ℕ → List Float
coefficients d zero = []
coefficients d (suc k) = round binary64 (eqb (k % 2) 1) 1 (d k) ∷ coefficients d k

-- 1/17, −1/15, 1/13, −1/11, 1/9, −1/7, 1/5, −1/3, 1
unfoldable pub atan_table : List Float
unfolding coefficients
atan_table = coefficients (λ (k : ℕ). 2 * k + 1) 9

-- −1/15!, 1/13!, −1/11!, 1/9!, −1/7!, 1/5!, −1/3!, 1
unfoldable pub sin_table : List Float
unfolding coefficients factorial
sin_table = coefficients (λ (k : ℕ). factorial (2 * k + 1)) 8

-- −1/14!, 1/12!, −1/10!, 1/8!, −1/6!, 1/4!, −1/2!, 1
unfoldable pub cos_table : List Float
unfolding coefficients factorial
cos_table = coefficients (λ (k : ℕ). factorial (2 * k)) 8
