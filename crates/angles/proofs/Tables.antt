-- The bits to which definitions and code both come, of π and of the coefficients; and that the decimals of π which are left out change nothing. Assumes nothing.
use mathlib.Core.Path.{◌≡◌, refl, sym, ◌∙◌, subst}
use mathlib.Core.List.{List, [], ◌∷◌}
use mathlib.Core.Bool.{false}
use Prim.Native.Nat.{ℕ, ◌+◌, ◌*◌, ◌^◌, ◌≤◌, ◌<◌}
use native.Mathlib.Omega.{arith}
use lib.Dec.{T}
use lib.Ieee.{Float, binary64, le, of_bits, round}
use lib.Ieee.Order.{round_mono}
use Rattle.angles.specs.Tables.{pi_digits, pi, half_pi, two_pi, atan_table, sin_table, cos_table}

-- a table from the bits of its entries
abbrev pub bits : List ℕ → List Float
bits [] = []
bits (b ∷ bs) = of_bits binary64 b ∷ bits bs

abbrev pub atan_bits : List ℕ
atan_bits =
    -- 1/17, −1/15, 1/13
    0x3fae_1e1e_1e1e_1e1e ∷
    0xbfb1_1111_1111_1111 ∷
    0x3fb3_b13b_13b1_3b14 ∷
    -- −1/11, 1/9, −1/7
    0xbfb7_45d1_745d_1746 ∷
    0x3fbc_71c7_1c71_c71c ∷
    0xbfc2_4924_9249_2492 ∷
    -- 1/5, −1/3, 1
    0x3fc9_9999_9999_999a ∷
    0xbfd5_5555_5555_5555 ∷
    0x3ff0_0000_0000_0000 ∷
    []

pub atan-bits : atan_table ≡ bits atan_bits
unfolding atan_table of_bits round
atan-bits = refl

abbrev pub sin_bits : List ℕ
sin_bits =
    -- −1/15!, 1/13!, −1/11!, 1/9!
    0xbd6a_e7f3_e733_b81f ∷
    0x3de6_1246_13a8_6d09 ∷
    0xbe5a_e645_67f5_44e4 ∷
    0x3ec7_1de3_a556_c734 ∷
    -- −1/7!, 1/5!, −1/3!, 1
    0xbf2a_01a0_1a01_a01a ∷
    0x3f81_1111_1111_1111 ∷
    0xbfc5_5555_5555_5555 ∷
    0x3ff0_0000_0000_0000 ∷
    []

pub sin_bits_lem : sin_table ≡ bits sin_bits
unfolding sin_table of_bits round
sin_bits_lem = refl

abbrev pub cos_bits : List ℕ
cos_bits =
    -- −1/14!, 1/12!, −1/10!, 1/8!
    0xbda9_3974_a8c0_7c9d ∷
    0x3e21_eed8_eff8_d898 ∷
    0xbe92_7e4f_b778_9f5c ∷
    0x3efa_01a0_1a01_a01a ∷
    -- −1/6!, 1/4!, −1/2!, 1
    0xbf56_c16c_16c1_6c17 ∷
    0x3fa5_5555_5555_5555 ∷
    0xbfe0_0000_0000_0000 ∷
    0x3ff0_0000_0000_0000 ∷
    []

pub cos_bits_lem : cos_table ≡ bits cos_bits
unfolding cos_table of_bits round
cos_bits_lem = refl

pub pi-bits : pi ≡ of_bits binary64 0x4009_21fb_5444_2d18
unfolding of_bits round
pi-bits = refl

pub half-pi-bits : half_pi ≡ of_bits binary64 0x3ff9_21fb_5444_2d18
unfolding of_bits round
half-pi-bits = refl

pub two-pi-bits : two_pi ≡ of_bits binary64 0x4019_21fb_5444_2d18
unfolding of_bits round
two-pi-bits = refl

-- each fraction a/c from l/d to u/d is rounded to x, no less and no more
abbrev pub AllRoundTo : Float → ℕ → ℕ → ℕ → Type 0
AllRoundTo x l u d = (a c : ℕ) → 0 < c → l * c ≤ a * d → a * d ≤ u * c → T (le x (round binary64 false a c)) × T (le (round binary64 false a c) x)

all-round : (x : Float) (l u d : ℕ) → 0 < d → round binary64 false l d ≡ x → round binary64 false u d ≡ x → AllRoundTo x l u d
all-round x l u d p low high a c q h k =
    let r = round binary64 false a c in
    (subst (λ (z : Float). T (le z r)) low (round_mono binary64 l d a c p q h), subst (λ (z : Float). T (le r z)) high (round_mono binary64 a c u d q p k))

-- whatever the decimals after the twentieth are
pub pi_nearest : AllRoundTo pi pi_digits (pi_digits + 1) (10 ^ 20) × AllRoundTo half_pi pi_digits (pi_digits + 1) (2 * 10 ^ 20) × AllRoundTo two_pi (2 * pi_digits) (2 * (pi_digits + 1)) (10 ^ 20)
pi_nearest = (
  all-round _ _ _ _ (omega arith) refl (next ∙ sym pi-bits),
  all-round _ _ _ _ (omega arith) refl (next-half ∙ sym half-pi-bits),
  all-round _ _ _ _ (omega arith) refl (next-two ∙ sym two-pi-bits),
)
  where
    next : round binary64 false (pi_digits + 1) (10 ^ 20) ≡ of_bits binary64 0x4009_21fb_5444_2d18
    next = unfold of_bits round in refl

    next-half : round binary64 false (pi_digits + 1) (2 * 10 ^ 20) ≡ of_bits binary64 0x3ff9_21fb_5444_2d18
    next-half = unfold of_bits round in refl

    next-two : round binary64 false (2 * (pi_digits + 1)) (10 ^ 20) ≡ of_bits binary64 0x4019_21fb_5444_2d18
    next-two = unfold of_bits round in refl
