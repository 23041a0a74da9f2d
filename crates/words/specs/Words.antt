-- Numbers over a list of bytes, most significant first. Definitions only.
use Rattle.std.specs.Prelude.{ℕ, zero, suc, ◌+◌, ◌*◌, List, get_or, Float}
use Rattle.std.specs.Float.{binary64}
use Rattle.std.specs.Float.Ieee.{of_bits}

-- the number in k bytes from place i on
unfoldable pub big_endian : List ℕ → ℕ → ℕ → ℕ
big_endian bytes i zero = 0
big_endian bytes i (suc k) = big_endian bytes i k * 256 + get_or bytes (i + k) 0

-- 64 bits from place i on: the number with these bits, a NaN for each NaN's pattern
unfoldable pub number_at : List ℕ → ℕ → Float
number_at bytes i = of_bits binary64 (big_endian bytes i 8)
