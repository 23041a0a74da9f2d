-- Samples of each branch. What the rows say was worked out from 01 apart from the definitions; a row has the bits that go in and the bits that come out.
-- Assumes nothing.
use mathlib.Core.Path.{◌≡◌, refl}
use mathlib.Core.List.{List, [], ◌∷◌}
use Prim.Native.Nat.{ℕ}
use lib.Ieee.{Float, binary64, of_bits, neg, add, sub, mul, div, lt, le, eq}
use Rattle.floats.specs.Choice.{when◌give◌else◌, ◌and◌}
use Rattle.floats.specs.Size.{abs_of}
use Rattle.floats.specs.Root.{sqrt_of}
use Rattle.vectors.specs.declared.Vector2.{Vector2}
use Rattle.vectors.specs.Plane.{◌⊟◌}
use Rattle.angles.specs.Angle.{horner, halve, atan_small, quarter_turn, atan_of, tan_step, tan_eighth, tan_by_eighth, tan_of, wide_angle, direction_of, angle_of, sweep_of, bulge_of, normalized_angle}

infix 5 ◌gives◌
pub data Row (A : Type 0) : Type 0 where
  ◌gives◌ : A → ℕ → Row A

-- the function at each row's input, and what the rows say
abbrev pub worked : {A : Type 0} → (A → Float) → List (Row A) → List Float
worked f [] = []
worked f ((a gives r) ∷ rows) = f a ∷ worked f rows

abbrev pub written : {A : Type 0} → List (Row A) → List Float
written [] = []
written ((a gives r) ∷ rows) = of_bits binary64 r ∷ written rows

-- all that the rows look through
unfoldable pub opened : Unit {0}
unfolding when◌give◌else◌ ◌and◌ abs_of sqrt_of ◌⊟◌ horner halve atan_small quarter_turn atan_of tan_step tan_eighth tan_by_eighth tan_of wide_angle direction_of angle_of sweep_of bulge_of normalized_angle of_bits neg add sub mul div lt le eq
opened = tt

abbrev pub at : (Float → Float) → ℕ → Float
at f x = f (of_bits binary64 x)

abbrev pub vector : ℕ × ℕ → Vector2
vector p = record { x = of_bits binary64 p.0; y = of_bits binary64 p.1 }

abbrev pub atan_rows : List (Row ℕ)
atan_rows =
    -- 0.5, 1 and −1 are not above 1 in size; the next double after 1 is, and so are 2, −2, 1000, +∞, −∞
    (0x3fe0_0000_0000_0000 gives 0x3fdd_ac67_0561_bb4f) ∷
    (0x3ff0_0000_0000_0000 gives 0x3fe9_21fb_5444_2d18) ∷
    (0xbff0_0000_0000_0000 gives 0xbfe9_21fb_5444_2d18) ∷
    (0x3ff0_0000_0000_0001 gives 0x3fe9_21fb_5444_2d19) ∷
    (0x4000_0000_0000_0000 gives 0x3ff1_b6e1_92eb_be44) ∷
    (0xc000_0000_0000_0000 gives 0xbff1_b6e1_92eb_be44) ∷
    (0x408f_4000_0000_0000 gives 0x3ff9_1de2_c0e6_58bc) ∷
    (0x7ff0_0000_0000_0000 gives 0x3ff9_21fb_5444_2d18) ∷
    (0xfff0_0000_0000_0000 gives 0xbff9_21fb_5444_2d18) ∷
    -- 0, −0, NaN
    (0x0000_0000_0000_0000 gives 0x0000_0000_0000_0000) ∷
    (0x8000_0000_0000_0000 gives 0x8000_0000_0000_0000) ∷
    (0x7ff8_0000_0000_0000 gives 0x7ff8_0000_0000_0000) ∷
    []

pub atan_samples : worked (at atan_of) atan_rows ≡ written atan_rows
unfolding opened
atan_samples = refl

abbrev pub tan_rows : List (Row ℕ)
tan_rows =
    -- 1, −0, NaN, +∞
    (0x3ff0_0000_0000_0000 gives 0x3ff8_eb24_5cbe_e3a5) ∷
    (0x8000_0000_0000_0000 gives 0x8000_0000_0000_0000) ∷
    (0x7ff8_0000_0000_0000 gives 0x7ff8_0000_0000_0000) ∷
    (0x7ff0_0000_0000_0000 gives 0x7ff8_0000_0000_0000) ∷
    -- what atan gives at 1, 0.5 and 1000
    (0x3fe9_21fb_5444_2d18 gives 0x3fef_ffff_ffff_fffe) ∷
    (0x3fdd_ac67_0561_bb4f gives 0x3fe0_0000_0000_0001) ∷
    (0x3ff9_1de2_c0e6_58bc gives 0x408f_3fff_ffff_ff0e) ∷
    []

pub tan_samples : worked (at tan_of) tan_rows ≡ written tan_rows
unfolding opened
tan_samples = refl

abbrev pub direction_rows : List (Row (ℕ × ℕ))
direction_rows =
    -- both 0, of either sign
    ((0x0000_0000_0000_0000, 0x0000_0000_0000_0000) gives 0x0000_0000_0000_0000) ∷
    ((0x8000_0000_0000_0000, 0x8000_0000_0000_0000) gives 0x0000_0000_0000_0000) ∷
    -- |x| > |y|: (4, 1), (4, −1), (−4, 1), (−4, −1); y = −0 counts as y ≥ 0
    ((0x4010_0000_0000_0000, 0x3ff0_0000_0000_0000) gives 0x3fcf_5b75_f92c_80dd) ∷
    ((0x4010_0000_0000_0000, 0xbff0_0000_0000_0000) gives 0xbfcf_5b75_f92c_80dd) ∷
    ((0xc010_0000_0000_0000, 0x3ff0_0000_0000_0000) gives 0x4007_2c43_f4b1_650a) ∷
    ((0xc010_0000_0000_0000, 0xbff0_0000_0000_0000) gives 0xc007_2c43_f4b1_650a) ∷
    ((0xc010_0000_0000_0000, 0x8000_0000_0000_0000) gives 0x4009_21fb_5444_2d18) ∷
    ((0x4010_0000_0000_0000, 0x8000_0000_0000_0000) gives 0x8000_0000_0000_0000) ∷
    -- |x| = |y|: (1, 1), (−1, 1), (−1, −1)
    ((0x3ff0_0000_0000_0000, 0x3ff0_0000_0000_0000) gives 0x3fe9_21fb_5444_2d18) ∷
    ((0xbff0_0000_0000_0000, 0x3ff0_0000_0000_0000) gives 0x4002_d97c_7f33_21d2) ∷
    ((0xbff0_0000_0000_0000, 0xbff0_0000_0000_0000) gives 0xc002_d97c_7f33_21d2) ∷
    -- |x| < |y|: (1, 4), (−1, 4), (1, −4), (−1, −4), (0, 3), (0, −3)
    ((0x3ff0_0000_0000_0000, 0x4010_0000_0000_0000) gives 0x3ff5_368c_951e_9cfc) ∷
    ((0xbff0_0000_0000_0000, 0x4010_0000_0000_0000) gives 0x3ffd_0d6a_1369_bd34) ∷
    ((0x3ff0_0000_0000_0000, 0xc010_0000_0000_0000) gives 0xbff5_368c_951e_9cfc) ∷
    ((0xbff0_0000_0000_0000, 0xc010_0000_0000_0000) gives 0xbffd_0d6a_1369_bd34) ∷
    ((0x0000_0000_0000_0000, 0x4008_0000_0000_0000) gives 0x3ff9_21fb_5444_2d18) ∷
    ((0x0000_0000_0000_0000, 0xc008_0000_0000_0000) gives 0xbff9_21fb_5444_2d18) ∷
    -- (NaN, 1), (1, NaN), (∞, ∞), (−∞, 1)
    ((0x7ff8_0000_0000_0000, 0x3ff0_0000_0000_0000) gives 0x7ff8_0000_0000_0000) ∷
    ((0x3ff0_0000_0000_0000, 0x7ff8_0000_0000_0000) gives 0x7ff8_0000_0000_0000) ∷
    ((0x7ff0_0000_0000_0000, 0x7ff0_0000_0000_0000) gives 0x7ff8_0000_0000_0000) ∷
    ((0xfff0_0000_0000_0000, 0x3ff0_0000_0000_0000) gives 0x4009_21fb_5444_2d18) ∷
    []

pub direction_samples : worked (λ (p : ℕ × ℕ). direction_of (vector p).x (vector p).y) direction_rows ≡ written direction_rows
unfolding opened
direction_samples = refl

abbrev pub angle_rows : List (Row ((ℕ × ℕ) × (ℕ × ℕ)))
angle_rows =
    -- from (1, 2) to (4, 6), and back
    (((0x3ff0_0000_0000_0000, 0x4000_0000_0000_0000), (0x4010_0000_0000_0000, 0x4018_0000_0000_0000)) gives 0x3fed_ac67_0561_bb4f) ∷
    (((0x4010_0000_0000_0000, 0x4018_0000_0000_0000), (0x3ff0_0000_0000_0000, 0x4000_0000_0000_0000)) gives 0xc001_b6e1_92eb_be44) ∷
    []

pub angle_samples : worked (λ (p : (ℕ × ℕ) × (ℕ × ℕ)). angle_of (vector p.0) (vector p.1)) angle_rows ≡ written angle_rows
unfolding opened
angle_samples = refl

abbrev pub bulge_rows : List (Row ℕ)
bulge_rows =
    -- a bulge goes by its sweep and does not come back: 1, −1, 0.5
    (0x3ff0_0000_0000_0000 gives 0x3fef_ffff_ffff_fffe) ∷
    (0xbff0_0000_0000_0000 gives 0xbfef_ffff_ffff_fffe) ∷
    (0x3fe0_0000_0000_0000 gives 0x3fe0_0000_0000_0001) ∷
    []

pub bulge_samples : worked (at (λ (b : Float). bulge_of (sweep_of b))) bulge_rows ≡ written bulge_rows
unfolding opened
bulge_samples = refl

abbrev pub normalized_rows : List (Row ℕ)
normalized_rows =
    -- −1, 1, −0, NaN
    (0xbff0_0000_0000_0000 gives 0x4015_21fb_5444_2d18) ∷
    (0x3ff0_0000_0000_0000 gives 0x3ff0_0000_0000_0000) ∷
    (0x8000_0000_0000_0000 gives 0x8000_0000_0000_0000) ∷
    (0x7ff8_0000_0000_0000 gives 0x7ff8_0000_0000_0000) ∷
    []

pub normalized_samples : worked (at normalized_angle) normalized_rows ≡ written normalized_rows
unfolding opened
normalized_samples = refl
