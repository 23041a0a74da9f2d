-- Values of `sqrt_of` and `abs_of`, by computation. Assumes nothing.
use Rattle.std.proofs.Common.{◌≡◌, refl}
use lib.Ieee.{binary64, of_bits}
use Rattle.floats.specs.Root.{sqrt_of}
use Rattle.floats.specs.Size.{abs_of}

-- ---- roots
-- √2
two : sqrt_of (of_bits binary64 0x4000_0000_0000_0000) ≡ of_bits binary64 0x3ff6_a09e_667f_3bcd
unfolding sqrt_of of_bits
two = refl

-- √0.5
half : sqrt_of (of_bits binary64 0x3fe0_0000_0000_0000) ≡ of_bits binary64 0x3fe6_a09e_667f_3bcd
unfolding sqrt_of of_bits
half = refl

-- of the smallest number above zero, 2 ^ -1074
least : sqrt_of (of_bits binary64 0x0000_0000_0000_0001) ≡ of_bits binary64 0x1e60_0000_0000_0000
unfolding sqrt_of of_bits
least = refl

-- of the largest subnormal number
subnormal : sqrt_of (of_bits binary64 0x000f_ffff_ffff_ffff) ≡ of_bits binary64 0x1fff_ffff_ffff_ffff
unfolding sqrt_of of_bits
subnormal = refl

-- of the largest number
largest : sqrt_of (of_bits binary64 0x7fef_ffff_ffff_ffff) ≡ of_bits binary64 0x5fef_ffff_ffff_ffff
unfolding sqrt_of of_bits
largest = refl

-- of 1 + 2 ^ -52, which is 1
above-one : sqrt_of (of_bits binary64 0x3ff0_0000_0000_0001) ≡ of_bits binary64 0x3ff0_0000_0000_0000
unfolding sqrt_of of_bits
above-one = refl

-- of 1 - 2 ^ -53, which is itself
below_one : sqrt_of (of_bits binary64 0x3fef_ffff_ffff_ffff) ≡ of_bits binary64 0x3fef_ffff_ffff_ffff
unfolding sqrt_of of_bits
below_one = refl

-- of 9007199136250225, the square of 94906265
square : sqrt_of (of_bits binary64 0x433f_ffff_f8ef_f971) ≡ of_bits binary64 0x4196_a09e_6400_0000
unfolding sqrt_of of_bits
square = refl

-- ---- sizes
-- −0 gives +0
minus_zero_lem : abs_of (of_bits binary64 0x8000_0000_0000_0000) ≡ of_bits binary64 0x0000_0000_0000_0000
unfolding abs_of of_bits
minus_zero_lem = refl

-- −∞ gives +∞
minus_infinity : abs_of (of_bits binary64 0xfff0_0000_0000_0000) ≡ of_bits binary64 0x7ff0_0000_0000_0000
unfolding abs_of of_bits
minus_infinity = refl
