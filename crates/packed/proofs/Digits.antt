-- The digits of a number: how many there are. Assumes nothing.
use mathlib.Core.Path.{◌≡◌, refl, sym, ap, ◌∙◌, subst}
use mathlib.Core.List.{List, [], ◌∷◌}
use mathlib.Core.Bool.{Bool, true, false}
use Prim.Native.Nat.{ℕ, zero, suc, ◌+◌, ◌-◌, ◌/◌, ◌^◌, ◌<◌, ◌≤◌}
use native.Mathlib.Nat.{pow-suc, one-le-pow, pow-le-pow_right}
use native.Mathlib.Omega.{arith}
use borrow.Author.Tests.{ltb-true, ltb-false}
use lib.Dec.{ltb}
use lib.ListN.{length, length-append}
use Rattle.floats.specs.Choice.{when◌give◌else◌}
use Rattle.floats.proofs.Choice.{yes, no}
use Rattle.io.specs.Digits.{last_digits, IsDigitCount}
use Rattle.packed.specs.Text.{◌then◌, places_of, decimal_of}

pub length_digits : (b k n : ℕ) → length (last_digits b k n) ≡ k
length_digits b zero n = refl
length_digits b (suc k) n = let l = length_digits b k (n / b) in rw length-append (omega arith)

pub length-then : (w : List ℕ) (e : ℕ) → length (w then e) ≡ length w + 1
length-then w e = length-append w (e ∷ [])

-- ---- the count of decimal digits

least : (n j : ℕ) → IsDigitCount 10 1 n (suc (suc j)) → 10 ^ suc j ≤ n
least n j f = let e : suc (suc j) - 1 ≡ suc j = omega arith in subst (λ (i : ℕ). 10 ^ i ≤ n) e (f.2 (omega arith))

one_digit : (n k : ℕ) → IsDigitCount 10 1 n k → n < 10 → k ≡ 1
one_digit n zero f h = let l : 1 ≤ 0 = f.0 in absurd (omega arith)
one_digit n (suc zero) f h = refl
one_digit n (suc (suc j)) f h =
    let p = least n j f in
    let o : 1 ≤ 10 ^ j = one-le-pow j 10 (omega arith) in
    absurd (omega (arith, pow-suc 10 j))

-- a digit taken off
less_one : (n j : ℕ) → IsDigitCount 10 1 n (suc (suc j)) → IsDigitCount 10 1 (n / 10) (suc j)
less_one n j f =
    let p = least n j f in
    let q : n < 10 ^ suc (suc j) = f.1 in
    let r : 10 ^ j ≤ n / 10 = omega (arith, pow-suc 10 j) in
    let e : j ≡ suc j - 1 = omega arith in
    (omega arith, omega (arith, pow-suc 10 (suc j)), λ h. subst (λ (i : ℕ). 10 ^ i ≤ n / 10) e r)

-- one law for the place d + 1, from the law for the place d
step : (d : ℕ) → ((n k : ℕ) → n < 10 ^ suc d → IsDigitCount 10 1 n k → k ≡ places_of d n) →
    (n k : ℕ) → n < 10 ^ suc (suc d) → IsDigitCount 10 1 n k → 10 ≤ n → k ≡ suc (places_of d (n / 10))
step d ih n zero h f m = let l : 1 ≤ 0 = f.0 in absurd (omega arith)
step d ih n (suc zero) h f m = let l : n < 10 = f.1 in absurd (omega arith)
step d ih n (suc (suc j)) h f m = ap suc (ih (n / 10) (suc j) (omega (arith, pow-suc 10 (suc d))) (less_one n j f))

choose : (n k m : ℕ) → (n < 10 → k ≡ 1) → (10 ≤ n → k ≡ m) → (b : Bool) → ltb n 10 ≡ b → k ≡ when ltb n 10 give 1 else m
choose n k m f g true e = yes _ _ _ e (f (ltb-true _ _ e))
choose n k m f g false e = no _ _ _ e (g (ltb-false _ _ e))

pub places : (d n k : ℕ) → n < 10 ^ suc d → IsDigitCount 10 1 n k → k ≡ places_of d n
unfolding places_of
places zero n k h f = one_digit n k f (omega arith)
places (suc d) n k h f =
    choose n k (suc (places_of d (n / 10))) (one_digit n k f) (step d (λ m j. places d m j) n k h f) (ltb n 10) refl

below : (b : Bool) (m d : ℕ) → m ≤ suc d → (when b give 1 else suc m) ≤ suc (suc d)
unfolding when◌give◌else◌
below true m d h = omega arith
below false m d h = omega arith

at_most : (d n : ℕ) → places_of d n ≤ suc d
unfolding places_of
at_most zero n = omega arith
at_most (suc d) n = below (ltb n 10) (places_of d (n / 10)) d (at_most d (n / 10))

-- 64 bits take at most 20 digits, and a byte comes after them
pub most_decimal : (n e : ℕ) → length (decimal_of n then e) ≤ 21
unfolding decimal_of
most_decimal n e = omega (arith, length-then (decimal_of n) e, length_digits 10 (places_of 19 n) n, at_most 19 n)

-- what `io::decimal` writes of a number of 64 bits
pub decimal : (n k : ℕ) → n < 2 ^ 64 → IsDigitCount 10 1 n k → last_digits 10 k n ≡ decimal_of n
unfolding decimal_of
decimal n k h f = ap (λ j. last_digits 10 j n) (places 19 n k (omega arith) f)

pub decimal_short : (n k : ℕ) → n < 2 ^ 64 → IsDigitCount 10 1 n k → k ≤ 20
decimal_short n k h f = let e = places 19 n k (omega arith) f in omega (arith, at_most 19 n)

pub length_decimal : (n k : ℕ) → n < 2 ^ 64 → IsDigitCount 10 1 n k → length (decimal_of n) ≡ k
length_decimal n k h f = ap length (sym (decimal n k h f)) ∙ length_digits 10 k n

-- `io::hex` writes 16 digits of a number of 64 bits
pub sixteen : (n k : ℕ) → n < 2 ^ 64 → IsDigitCount 16 16 n k → k ≡ 16
sixteen n k h f = no_more (ltb 16 k) refl
  where
    no_more : (b : Bool) → ltb 16 k ≡ b → k ≡ 16
    no_more false e = let l = ltb-false 16 k e in let m : 16 ≤ k = f.0 in omega arith
    no_more true e =
        let l : 16 < k = ltb-true 16 k e in
        let o : 16 ≤ k - 1 = omega arith in
        let p : 16 ^ 16 ≤ 16 ^ (k - 1) = pow-le-pow_right (omega arith) o in
        let q : 16 ^ (k - 1) ≤ n = f.2 l in
        absurd (omega arith)
