-- Digits that were written read back as the number. Assumes nothing.
use mathlib.Core.Path.{◌≡◌, refl, sym, ap, ◌∙◌}
use mathlib.Core.List.{List, [], ◌∷◌}
use mathlib.Core.Bool.{Bool, true, false, cond}
use Prim.Native.Nat.{ℕ, zero, suc, ◌+◌, ◌-◌, ◌*◌, ◌/◌, ◌%◌, ◌^◌, ◌<◌, ◌≤◌}
use native.Mathlib.Nat.{pow-suc}
use native.Mathlib.Omega.{arith}
use borrow.Author.Tests.{ltb-true, ltb-false, lt-ltb, le-ltb, eq-eqb, ne_eqb}
use lib.Dec.{T, ltb}
use lib.Ieee.{Float, binary64, fits, to_bits}
use lib.Ieee.Bits.{of_bits-to_bits, to_bits-lt}
use lib.ListN.{length}
use Rattle.floats.specs.Choice.{when◌give◌else◌}
use Rattle.floats.proofs.Choice.{yes, no}
use Rattle.io.specs.Digits.{last_digits, hex_digit_ascii}
use Rattle.packed.specs.Text.{space, line_end, ◌then◌, places_of, decimal_of, hex_of, word_of, mark_of}
use Rattle.packed.proofs.Digits.{length_digits}
use Rattle.same_reply.specs.Read.{byte_at, digit_of, hexadecimal, double_at, decimal_from, count_of, closed_of, flag_of}
use Rattle.same_reply.proofs.Reading.{at-space, past_digit}
use Rattle.same_reply.proofs.Exact.{places-few}
use Rattle.same_reply.proofs.Held.{Holds, left, right, first}

-- ---- one digit

digit_back : (d : ℕ) → d < 16 → digit_of (hex_digit_ascii d) ≡ d
unfolding digit_of
digit_back d h = by (ltb d 10) refl
  where
    by : (b : Bool) → ltb d 10 ≡ b → digit_of (cond b (48 + d) (87 + d)) ≡ d
    by true e = let l = ltb-true d 10 e in sym (yes _ _ _ (lt-ltb (48 + d) 64 (omega arith)) (omega arith))
    by false e = let l = ltb-false d 10 e in sym (no _ _ _ (le-ltb (87 + d) 64 (omega arith)) (omega arith))

-- no digit is a space
digit_marks : (d : ℕ) → hex_digit_ascii d ≡ space → ⊥
digit_marks d = by (ltb d 10)
  where
    by : (b : Bool) → cond b (48 + d) (87 + d) ≡ space → ⊥
    by true e = omega arith
    by false e = omega arith

-- ---- hexadecimal digits

module _ (bytes : List ℕ) (i : ℕ) where
  hexadecimal_back : (k n : ℕ) → n < 16 ^ k → Holds bytes i (last_digits 16 k n) → hexadecimal bytes i k ≡ n
  unfolding hexadecimal
  hexadecimal_back zero n h w = omega arith
  hexadecimal_back (suc k) n h w =
      let more = last_digits 16 k (n / 16) in
      let last = hex_digit_ascii (n % 16) ∷ [] in
      let before = hexadecimal_back k (n / 16) (omega (arith, pow-suc 16 k)) (left more last w) in
      let here = first (right more last k (length_digits 16 k (n / 16)) w) in
      let digit = digit_back (n % 16) (omega arith) in
      rw (before, here, digit) (omega arith)

  pub double_back : (x : Float) → T (fits binary64 x) → Holds bytes i (hex_of x) → double_at bytes i ≡ x
  unfolding double_at hex_of
  double_back x h w = rw (hexadecimal_back 16 (to_bits binary64 x) (to_bits-lt binary64 x h) w) (of_bits-to_bits binary64 x h)

-- ---- decimal digits

-- as many as hold the number
enough : (d n : ℕ) → n < 10 ^ suc d → n < 10 ^ places_of d n
unfolding places_of when◌give◌else◌
enough zero n h = h
enough (suc d) n h = by (ltb n 10) refl (enough d (n / 10) (omega (arith, pow-suc 10 (suc d))))
  where
    by : (b : Bool) → ltb n 10 ≡ b → n / 10 < 10 ^ places_of d (n / 10) → n < 10 ^ (when b give 1 else suc (places_of d (n / 10)))
    by true e rest = omega (arith, ltb-true n 10 e)
    by false e rest = omega (arith, pow-suc 10 (places_of d (n / 10)))

module _ (bytes : List ℕ) (i : ℕ) where
  -- past k digits, with m more to go
  decimal_on : (k m n : ℕ) → n < 10 ^ k → Holds bytes i (last_digits 10 k n) → decimal_from bytes (k + m) 0 i ≡ decimal_from bytes m n (i + k)
  decimal_on zero m n h w =
      let none : n ≡ 0 = omega arith in
      let steps : 0 + m ≡ m = omega arith in
      let place : i + 0 ≡ i = omega arith in
      rw (none, steps, place)
  decimal_on (suc k) m n h w =
      let more = last_digits 10 k (n / 10) in
      let last = hex_digit_ascii (n % 10) ∷ [] in
      let before = decimal_on k (suc m) (n / 10) (omega (arith, pow-suc 10 k)) (left more last w) in
      let here : byte_at bytes (i + k) ≡ hex_digit_ascii (n % 10) = first (right more last k (length_digits 10 k (n / 10)) w) in
      let digit = digit_back (n % 10) (omega arith) in
      let steps : suc k + m ≡ k + suc m = omega arith in
      let place : i + suc k ≡ suc (i + k) = omega arith in
      let value : n / 10 * 10 + digit_of (byte_at bytes (i + k)) ≡ n = rw (here, digit) (omega arith) in
      let past = past_digit bytes m (n / 10) (i + k) (λ e. digit_marks (n % 10) (sym here ∙ e)) in
      rw (steps, place) (before ∙ sym past ∙ ap (λ v. decimal_from bytes m v (suc (i + k))) value)

  decimal_stop : (m n : ℕ) → byte_at bytes i ≡ space → decimal_from bytes m n i ≡ n
  unfolding decimal_from
  decimal_stop zero n e = refl
  decimal_stop (suc m) n e = sym (at-space bytes m n i e)

pub count_back : (text : List ℕ) (n : ℕ) → n ≤ 12288 → Holds text 2 (decimal_of n then space) → count_of text ≡ n
unfolding count_of decimal_of
count_back text n h w =
    let k = places_of 19 n in
    let few : k ≤ 5 = places-few 19 4 n (omega arith) in
    let steps : 5 ≡ k + (5 - k) = omega arith in
    let long = length_digits 10 k n in
    let on = decimal_on text 2 k (5 - k) n (enough 19 n (omega arith)) (left (last_digits 10 k n) (space ∷ []) w) in
    let stop = decimal_stop text (2 + k) (5 - k) n (first (right (last_digits 10 k n) (space ∷ []) k long w)) in
    ap (λ m. decimal_from text m 0 2) steps ∙ on ∙ stop

-- ---- the mark

pub closed_back : (text : List ℕ) (closed : Bool) → Holds text (2 + length (decimal_of (count_of text) then space)) (word_of closed then line_end) → closed_of text ≡ closed
unfolding closed_of when◌give◌else◌
closed_back text true w = eq-eqb _ _ (first w)
closed_back text false w = ne_eqb _ _ (λ e. let here = sym (first w) ∙ e in omega arith)

pub flag_back : (flag : ℕ) → flag ≤ 1 → flag_of (mark_of false flag) ≡ flag
unfolding flag_of mark_of when◌give◌else◌
flag_back zero h = refl
flag_back (suc zero) h = refl
flag_back (suc (suc n)) h = absurd (omega arith)
