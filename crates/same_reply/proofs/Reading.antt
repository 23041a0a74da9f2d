-- How much is read, and what the loops over digits keep. Assumes nothing.
use mathlib.Core.Path.{◌≡◌, refl, sym, ap, ◌∙◌}
use mathlib.Core.List.{List, ◌++◌}
use mathlib.Core.Bool.{false}
use Prim.Native.Nat.{ℕ, zero, suc, ◌+◌, ◌-◌, ◌*◌, ◌^◌, ◌<◌, ◌≤◌}
use native.Mathlib.Nat.{pow-suc, pow-le-pow_right}
use native.Mathlib.Numerals.{add-one}
use native.Mathlib.Omega.{arith}
use borrow.Author.Tests.{eq-eqb, ne_eqb}
use lib.ListN.{length, drop, length-append}
use lib.Seq.{sets}
use Rattle.floats.specs.Choice.{when◌give◌else◌}
use Rattle.floats.proofs.Choice.{yes, no}
use Rattle.packed.specs.Text.{space, line_end, ◌then◌, places_of, decimal_of, word_of, head_of}
use Rattle.packed.proofs.Writing.{sets_front}
use Rattle.same_reply.specs.Read.{byte_at, digit_of, hexadecimal, decimal_from, count_of, numbers_at, flags_at}

-- ---- sixteen digits

-- one digit more
more : (w d k : ℕ) → w < 16 ^ k → d < 16 → w * 16 + d < 16 ^ suc k
more w d k h l = rw pow-suc (omega arith)

pub room : (w d k : ℕ) → w < 16 ^ k → d < 16 → k < 16 → w * 16 + d < 2 ^ 64
room w d k h l m =
    let p : 16 ^ suc k ≤ 16 ^ 16 = pow-le-pow_right (omega arith) m in
    omega (arith, more w d k h l)

-- after k digits
pub record Spelt (bytes : List ℕ) (i value k : ℕ) : Type 0 where
  pub within : k ≤ 16
  pub small : value < 16 ^ k
  pub so_far : value ≡ hexadecimal bytes i k

module _ {bytes : List ℕ} {i : ℕ} where
  pub spelt_none : Spelt bytes i 0 0
  unfolding hexadecimal
  spelt_none = record { within = omega arith; small = omega arith; so_far = refl }

  pub spelt_turn : {value k c d : ℕ} → Spelt bytes i value k → k < 16 → c ≡ byte_at bytes (i + k) → d ≡ digit_of c → d < 16 → Spelt bytes i (value * 16 + d) (k + 1)
  unfolding hexadecimal
  spelt_turn {value} {k} {c} {d} w t b e s = record {
    within = omega arith;
    small = rw add-one (more value d k w.small s);
    so_far = rw (add-one, w.so_far, e, b);
  }

  pub spelt_done : {value k : ℕ} → Spelt bytes i value k → 16 ≤ k → value ≡ hexadecimal bytes i 16
  spelt_done {value} {k} w d = let n : k ≡ 16 = omega arith in w.so_far ∙ ap (λ j. hexadecimal bytes i j) n

-- ---- up to five digits

module _ (bytes : List ℕ) (d n i : ℕ) where
  pub at-space : byte_at bytes i ≡ space → n ≡ decimal_from bytes (suc d) n i
  unfolding decimal_from
  at-space e = yes _ _ _ (eq-eqb _ _ e) refl

  pub past_digit : (byte_at bytes i ≡ space → ⊥) → decimal_from bytes d (n * 10 + digit_of (byte_at bytes i)) (suc i) ≡ decimal_from bytes (suc d) n i
  unfolding decimal_from
  past_digit e = no _ _ _ (ne_eqb _ _ e) refl

longer : (n d k : ℕ) → n + 2 ≤ 2 * 10 ^ k → d < 16 → n * 10 + d + 2 ≤ 2 * 10 ^ suc k
longer n d k h l = rw pow-suc (omega arith)

pub below : (n k : ℕ) → n + 2 ≤ 2 * 10 ^ k → k ≤ 5 → n ≤ 200000
below n k h m =
    let p : 10 ^ k ≤ 10 ^ 5 = pow-le-pow_right (omega arith) m in
    omega arith

-- after k digits
pub record Counting (text : List ℕ) (n k : ℕ) : Type 0 where
  pub within : k ≤ 5
  pub small : n + 2 ≤ 2 * 10 ^ k
  pub so_far : decimal_from text (5 - k) n (2 + k) ≡ count_of text

module _ {text : List ℕ} where
  pub counting_none : Counting text 0 0
  unfolding count_of
  counting_none = record { within = omega arith; small = omega arith; so_far = refl }

  module _ {n k c : ℕ} (w : Counting text n k) (t : k < 5) (b : c ≡ byte_at text (2 + k)) where
    pub counting_stop : c ≡ space → n ≡ count_of text
    counting_stop e =
        let one : 5 - k ≡ suc (4 - k) = omega arith in
        at-space text (4 - k) n (2 + k) (sym b ∙ e) ∙ rw one at w.so_far

    pub counting_turn : {d : ℕ} → (c ≡ space → ⊥) → d ≡ digit_of c → d < 16 → Counting text (n * 10 + d) (k + 1)
    counting_turn {d} h e s =
        let one : 5 - k ≡ suc (4 - k) = omega arith in
        let less : 5 - (k + 1) ≡ 4 - k = omega arith in
        let on : 2 + (k + 1) ≡ suc (2 + k) = omega arith in
        record {
          within = omega arith;
          small = rw add-one (longer n d k w.small s);
          so_far = rw (less, on, e, b) (past_digit text (4 - k) n (2 + k) (λ p. h (b ∙ p)) ∙ rw one at w.so_far);
        }

  pub counting_done : {n k : ℕ} → Counting text n k → 5 ≤ k → n ≡ count_of text
  unfolding decimal_from
  counting_done {n} {k} w d = let z : 5 - k ≡ 0 = omega arith in rw z at w.so_far

-- ---- the first line

pub length_nought : length (decimal_of 0 then space) ≡ 2
unfolding decimal_of places_of when◌give◌else◌
length_nought = refl

length_open : length (word_of false then line_end) ≡ 5
unfolding when◌give◌else◌
length_open = refl

-- what stands before the mark of an open output, and the mark
pub length_head : (count : ℕ) → length (head_of count false) ≡ 2 + length (decimal_of count then space) + 5
unfolding head_of
length_head count =
    let a = decimal_of 0 then space in
    let b = decimal_of count then space in
    omega (arith, length-append (a ++ b) (word_of false then line_end), length-append a b, length_nought, length_open)

-- ---- the numbers and the flags

pub length-numbers : (bytes : List ℕ) (i k : ℕ) → length (numbers_at bytes i k) ≡ 3 * k
unfolding numbers_at
length-numbers bytes i zero = refl
length-numbers bytes i (suc k) = let n = length-numbers bytes i k in rw length-append (omega arith)

pub length-flags : (bytes : List ℕ) (i k : ℕ) → length (flags_at bytes i k) ≡ k
unfolding flags_at
length-flags bytes i zero = refl
length-flags bytes i (suc k) = let n = length-flags bytes i k in rw length-append (omega arith)

-- a list of known length, stored at the start
pub placed : {A : Type 0} (new old : List A) (n : ℕ) → length new ≡ n → n ≤ length old → sets old 0 new ≡ new ++ drop n old
placed new old n e h = sets_front old new (omega arith) ∙ ap (λ j. new ++ drop j old) e
