-- The text of an output that is lent in longer lists, and how long it is at most. Assumes nothing.
use mathlib.Core.Path.{◌≡◌, refl, ap}
use mathlib.Core.List.{List, [], ◌∷◌, ◌++◌}
use mathlib.Core.Bool.{Bool, true, false}
use Prim.Native.Nat.{ℕ, zero, suc, ◌+◌, ◌*◌, ◌/◌, ◌^◌, ◌<◌, ◌≤◌}
use native.Mathlib.Nat.{pow-suc}
use native.Mathlib.Omega.{arith}
use borrow.Author.Tests.{lt-ltb}
use lib.Dec.{ltb}
use lib.Ieee.{Float, nan}
use lib.ListN.{length, get_or, replicate, length-append, get_or-append}
use Rattle.floats.specs.Choice.{when◌give◌else◌}
use Rattle.floats.proofs.Choice.{yes}
use Rattle.io.specs.Digits.{last_digits}
use Rattle.packed.specs.Text.{◌then◌, places_of, decimal_of, word_of, space, line_end, head_of, line_at, lines_of, text_of}
use Rattle.packed.proofs.Digits.{length_digits, length-then}
use Rattle.packed.proofs.Lines.{length-lines}

-- ---- places past an output's flags hold 0, as if there were none

zeros : (m i : ℕ) → ◌≡◌ {A = ℕ} (get_or (replicate m 0) i 0) 0
zeros zero i = refl
zeros (suc m) zero = refl
zeros (suc m) (suc i) = zeros m i

flags_exact : (fs : List ℕ) (m i : ℕ) → get_or (fs ++ replicate m 0) i 0 ≡ get_or fs i 0
flags_exact [] m i = zeros m i
flags_exact (f ∷ fs) m zero = refl
flags_exact (f ∷ fs) m (suc i) = flags_exact fs m i

module _ (count : ℕ) (closed : Bool) (ns more : List Float) (fs : List ℕ) (m : ℕ) (whole : length ns ≡ 3 * count) where
  line_exact : (i : ℕ) → i < count → line_at count closed (ns ++ more) (fs ++ replicate m 0) i ≡ line_at count closed ns fs i
  unfolding line_at
  line_exact i h =
      rw (get_or-append ns more nan (3 * i) (omega arith), get_or-append ns more nan (3 * i + 1) (omega arith), get_or-append ns more nan (3 * i + 2) (omega arith), flags_exact fs m i)

  lines_exact : (k : ℕ) → k ≤ count → lines_of count closed (ns ++ more) (fs ++ replicate m 0) k ≡ lines_of count closed ns fs k
  unfolding lines_of
  lines_exact zero h = refl
  lines_exact (suc k) h = rw (lines_exact k (omega arith), line_exact k (omega arith))

pub text_exact : (count : ℕ) (closed : Bool) (ns more : List Float) (fs : List ℕ) (m : ℕ) → length ns ≡ 3 * count →
    text_of count closed (ns ++ more) (fs ++ replicate m 0) ≡ text_of count closed ns fs
unfolding text_of
text_exact count closed ns more fs m whole = ap (λ t. head_of count closed ++ t) (lines_exact count closed ns more fs m whole count (omega arith))

-- ---- the length

chosen : (b : Bool) (m k : ℕ) → m ≤ suc k → (when b give 1 else suc m) ≤ suc (suc k)
unfolding when◌give◌else◌
chosen true m k h = omega arith
chosen false m k h = omega arith

-- a number below 10 to the k + 1 takes at most k + 1 places
pub places-few : (d k n : ℕ) → n < 10 ^ suc k → places_of d n ≤ suc k
unfolding places_of
places-few zero k n h = omega arith
places-few (suc d) zero n h =
    let one : 1 ≡ (when ltb n 10 give 1 else suc (places_of d (n / 10))) = yes _ _ _ (lt-ltb n 10 (omega arith)) refl in
    omega arith
places-few (suc d) (suc k) n h = chosen (ltb n 10) (places_of d (n / 10)) k (places-few d k (n / 10) (omega (arith, pow-suc 10 (suc k))))

length_decimal_few : (k n end : ℕ) → n < 10 ^ suc k → length (decimal_of n then end) ≤ suc k + 1
unfolding decimal_of
length_decimal_few k n end h =
    let few = places-few 19 k n h in
    omega (arith, length-then (last_digits 10 (places_of 19 n) n) end, length_digits 10 (places_of 19 n) n)

length-word : (closed : Bool) → length (word_of closed then line_end) ≤ 7
unfolding when◌give◌else◌
length-word true = omega arith
length-word false = omega arith

length_head : (count : ℕ) (closed : Bool) → count ≤ 12288 → length (head_of count closed) ≤ 15
unfolding head_of
length_head count closed h =
    let none = decimal_of 0 then space in
    let counted = decimal_of count then space in
    let word = word_of closed then line_end in
    let a = length_decimal_few 0 0 space (omega arith) in
    let b = length_decimal_few 4 count space (omega arith) in
    let c = length-word closed in
    omega (arith, length-append none counted, length-append (none ++ counted) word)

pub text-length : (count : ℕ) (closed : Bool) (ns : List Float) (fs : List ℕ) → count ≤ 12288 → length (text_of count closed ns fs) ≤ 15 + 53 * count
unfolding text_of
text-length count closed ns fs h =
    let first = length_head count closed h in
    let rest = length-lines count closed ns fs count in
    omega (arith, length-append (head_of count closed) (lines_of count closed ns fs count))
