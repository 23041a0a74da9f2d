-- The number in some bytes: as small as their count says, and one byte more. Assumes nothing.
use mathlib.Core.Path.{◌≡◌}
use mathlib.Core.List.{List}
use Prim.Native.Nat.{ℕ, zero, suc, ◌+◌, ◌*◌, ◌^◌, ◌<◌, ◌≤◌}
use native.Mathlib.Nat.{pow-suc, pow-le-pow_right}
use native.Mathlib.Numerals.{add-one}
use native.Mathlib.Omega.{arith}
use lib.ListN.{take, drop, get_or}
use Rattle.std.proofs.lemmas.List.{get_or-take, get_or-drop}
use Rattle.words.specs.Words.{big_endian}

module _ (bytes : List ℕ) (byte : (i : ℕ) → get_or bytes i 0 < 256) (at : ℕ) where
  pub big_endian_small : (k : ℕ) → big_endian bytes at k < 256 ^ k
  unfolding big_endian
  big_endian_small zero = omega arith
  big_endian_small (suc k) = rw pow-suc (omega (arith, big_endian_small k, byte (at + k)))

  pub big_endian_fits : (k : ℕ) → k ≤ 8 → big_endian bytes at k < 2 ^ 64
  big_endian_fits k h =
      let p : 256 ^ k ≤ 256 ^ 8 = pow-le-pow_right (omega arith) h in
      omega (arith, big_endian_small k)

-- one byte more, of those from place `at` on
pub big_endian_more : (bytes : List ℕ) (at n k : ℕ) → k < n → big_endian bytes at k * 256 + get_or (take n (drop at bytes)) k 0 ≡ big_endian bytes at (k + 1)
unfolding big_endian
big_endian_more bytes at n k h = rw (add-one, get_or-take, get_or-drop)
