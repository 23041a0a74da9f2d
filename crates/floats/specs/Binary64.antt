-- binary64 in the documents' signs, each operation rounded to nearest, ties to even (01, before section 1), and the constants that the rules name.
-- Definitions only.
use Rattle.std.specs.Prelude.{from_bits, Float}
use Rattle.std.specs.Float.{binary64}
use Rattle.std.specs.Float.Ieee.{add, sub, mul, div}

infixl 6 ◌⊕◌ ◌⊖◌
infixl 7 ◌⊗◌ ◌⊘◌
abbrev pub ◌⊕◌ : Float → Float → Float
x ⊕ y = add binary64 x y

abbrev pub ◌⊖◌ : Float → Float → Float
x ⊖ y = sub binary64 x y

abbrev pub ◌⊗◌ : Float → Float → Float
x ⊗ y = mul binary64 x y

abbrev pub ◌⊘◌ : Float → Float → Float
x ⊘ y = div binary64 x y

abbrev pub zero : Float
zero = from_bits binary64 0x0000_0000_0000_0000

abbrev pub half : Float
half = from_bits binary64 0x3fe0_0000_0000_0000

abbrev pub one : Float
one = from_bits binary64 0x3ff0_0000_0000_0000

abbrev pub two : Float
two = from_bits binary64 0x4000_0000_0000_0000

abbrev pub four : Float
four = from_bits binary64 0x4010_0000_0000_0000

abbrev pub eight : Float
eight = from_bits binary64 0x4020_0000_0000_0000

-- 1e-8, 000's fuzzy_epsilon
abbrev pub fuzzy : Float
fuzzy = from_bits binary64 0x3e45_798e_e230_8c3a
