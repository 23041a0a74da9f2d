-- Samples of Nos. 3 and 5: each limit and the double next to it, what is no number, and small sources. Assumes nothing.
use mathlib.Core.Path.{◌≡◌, refl}
use mathlib.Core.List.{List, [], ◌∷◌, map}
use mathlib.Core.Bool.{Bool, true, false}
use Prim.Native.Nat.{ℕ}
use lib.Ieee.{Float, binary64, of_bits, neg, le, eq}
use Rattle.std.specs.Prelude.{Option, None, Some}
use Rattle.floats.specs.Choice.{when◌give◌else◌, ◌and◌}
use Rattle.segments.specs.declared.PlineVertex.{PlineVertex}
use Rattle.segments.specs.declared.Settings.{Settings}
use Rattle.segments.specs.Modes.{round_by, pointed_by}
use Rattle.source.specs.Source.{vertices_of, segments_of, around}
use Rattle.refusals.specs.Limits.{inside, good_vertex, good_offset, good_eps, number_tests, repeats, neighbour_tests, repeat_tests, first_from, first_of}

-- all that the rows look through
unfoldable pub opened : Unit {0}
unfolding when◌give◌else◌ ◌and◌ vertices_of segments_of around inside good_vertex good_offset good_eps number_tests repeats neighbour_tests repeat_tests first_from of_bits neg le eq
opened = tt

abbrev pub number : ℕ → Float
number n = of_bits binary64 n

-- ---- limits: in a row the limit, the next double past it, both below zero, NaN, +∞, −∞, −0

abbrev pub with_offset : ℕ → Bool
with_offset n = good_offset (number n)

abbrev pub with_x : ℕ → Bool
with_x n = good_vertex (record { x = number n; y = number 0; bulge = number 0 })

abbrev pub with_y : ℕ → Bool
with_y n = good_vertex (record { x = number 0; y = number n; bulge = number 0 })

abbrev pub with_bulge : ℕ → Bool
with_bulge n = good_vertex (record { x = number 0; y = number 0; bulge = number n })

abbrev pub with_eps : ℕ → Bool
with_eps n = good_eps (number n)

abbrev pub around_reach : List ℕ
around_reach =
    0x412e_8480_0000_0000 ∷ 0x412e_8480_0000_0001 ∷ 0xc12e_8480_0000_0000 ∷ 0xc12e_8480_0000_0001 ∷
    0x7ff8_0000_0000_0000 ∷ 0x7ff0_0000_0000_0000 ∷ 0xfff0_0000_0000_0000 ∷ 0x8000_0000_0000_0000 ∷ []

abbrev pub around_bulge : List ℕ
around_bulge =
    0x41cd_cd65_0000_0000 ∷ 0x41cd_cd65_0000_0001 ∷ 0xc1cd_cd65_0000_0000 ∷ 0xc1cd_cd65_0000_0001 ∷
    0x7ff8_0000_0000_0000 ∷ 0x7ff0_0000_0000_0000 ∷ 0xfff0_0000_0000_0000 ∷ 0x8000_0000_0000_0000 ∷ []

abbrev pub around_eps : List ℕ
around_eps =
    0x3e11_2e0b_e826_d695 ∷ 0x3e11_2e0b_e826_d694 ∷ 0x3f84_7ae1_47ae_147b ∷ 0x3f84_7ae1_47ae_147c ∷
    0x7ff8_0000_0000_0000 ∷ 0x7ff0_0000_0000_0000 ∷ 0xfff0_0000_0000_0000 ∷ 0x8000_0000_0000_0000 ∷ []

abbrev pub passed : List Bool
passed = true ∷ false ∷ true ∷ false ∷ false ∷ false ∷ false ∷ true ∷ []

pub reach_samples : map with_offset around_reach ≡ passed
unfolding opened
reach_samples = refl

pub x_samples : map with_x around_reach ≡ passed
unfolding opened
x_samples = refl

pub y_samples : map with_y around_reach ≡ passed
unfolding opened
y_samples = refl

pub bulge_samples : map with_bulge around_bulge ≡ passed
unfolding opened
bulge_samples = refl

-- −0 is below 1e-9
pub eps_samples : map with_eps around_eps ≡ true ∷ false ∷ true ∷ false ∷ false ∷ false ∷ false ∷ false ∷ []
unfolding opened
eps_samples = refl

-- ---- places. A vertex is its x, y and bulge.

abbrev pub nought : ℕ
nought = 0

abbrev pub one : ℕ
one = 0x3ff0_0000_0000_0000

abbrev pub two : ℕ
two = 0x4000_0000_0000_0000

abbrev pub far : ℕ
far = 0x412e_8480_0000_0001

abbrev pub nan : ℕ
nan = 0x7ff8_0000_0000_0000

abbrev pub ε : ℕ
ε = 0x3f84_7ae1_47ae_147b

abbrev pub source : List ℕ → List PlineVertex
source ns = vertices_of (map number ns)

abbrev pub bad_by : List ℕ → Settings → Option ℕ
bad_by ns σ = first_of (number_tests (source ns) σ)

abbrev pub bad_number : List ℕ → ℕ → ℕ → Option ℕ
bad_number ns offset e = bad_by ns (round_by (number offset) (number e))

-- the same with pointed corners
abbrev pub bad_pointed : List ℕ → ℕ → ℕ → ℕ → Option ℕ
bad_pointed ns offset e ratio = bad_by ns (pointed_by (number offset) (number e) (number ratio))

abbrev pub repeated : Bool → List ℕ → Option ℕ
repeated closed ns = first_of (repeat_tests closed (source ns))

abbrev pub line : List ℕ
line = nought ∷ nought ∷ nought ∷ one ∷ nought ∷ nought ∷ []

abbrev pub bent : List ℕ
bent = nought ∷ nought ∷ nought ∷ one ∷ far ∷ nought ∷ two ∷ nought ∷ nan ∷ []

-- nothing bad; the second vertex though the third, the offset and ε are bad too; the offset though ε is bad too; ε; no vertex and a NaN for the offset
pub number_samples :
    bad_number line one ε ∷ bad_number bent nan nan ∷ bad_number line nan nan ∷ bad_number line one nan ∷ bad_number [] nan ε ∷ [] ≡ None ∷ Some 1 ∷ Some 2 ∷ Some 3 ∷ Some 0 ∷ []
unfolding opened
number_samples = refl

-- 1, the double below it, 10, the double above it, NaN, +∞, −∞, −1, 0
abbrev pub around_ratio : List ℕ
around_ratio =
    0x3ff0_0000_0000_0000 ∷ 0x3fef_ffff_ffff_ffff ∷ 0x4024_0000_0000_0000 ∷ 0x4024_0000_0000_0001 ∷
    0x7ff8_0000_0000_0000 ∷ 0x7ff0_0000_0000_0000 ∷ 0xfff0_0000_0000_0000 ∷ 0xbff0_0000_0000_0000 ∷ 0 ∷ []

-- a bad ratio is told at v + 2
pub ratio_samples : map (bad_pointed line one ε) around_ratio ≡ None ∷ Some 4 ∷ None ∷ Some 4 ∷ Some 4 ∷ Some 4 ∷ Some 4 ∷ Some 4 ∷ Some 4 ∷ []
unfolding opened
ratio_samples = refl

-- no vertex and a NaN for the ratio; where the ratio is bad: ε is told before it, the offset before both, a vertex before all three
pub pointed_samples : bad_pointed [] one ε nan ∷ bad_pointed line one nan nan ∷ bad_pointed line nan nan nan ∷ bad_pointed bent nan nan nan ∷ [] ≡ Some 2 ∷ Some 3 ∷ Some 2 ∷ Some 1 ∷ []
unfolding opened
pointed_samples = refl

abbrev pub doubled : List ℕ
doubled = nought ∷ nought ∷ nought ∷ one ∷ nought ∷ nought ∷ one ∷ nought ∷ nought ∷ two ∷ nought ∷ nought ∷ []

abbrev pub shut : List ℕ
shut = nought ∷ nought ∷ nought ∷ one ∷ nought ∷ nought ∷ nought ∷ nought ∷ nought ∷ []

-- the least double above zero, which no tolerance tells from it
abbrev pub least : ℕ
least = 1

abbrev pub level : List ℕ
level = nought ∷ nought ∷ nought ∷ least ∷ nought ∷ nought ∷ least ∷ one ∷ nought ∷ []

abbrev pub minus_nought : ℕ
minus_nought = 0x8000_0000_0000_0000

abbrev pub signed : List ℕ
signed = nought ∷ minus_nought ∷ nought ∷ minus_nought ∷ nought ∷ one ∷ two ∷ nought ∷ nought ∷ []

-- the earlier of two neighbours; last to first only where closed, at v − 1; neither the least difference in one number counts, nor equality in x or in y alone;
-- zeros of either sign, whatever the bulges; no vertex, and one
pub repeated_samples :
    repeated false doubled ∷ repeated true doubled ∷ repeated false shut ∷ repeated true shut ∷ repeated false level ∷ repeated true level ∷
    repeated false signed ∷ repeated true [] ∷ repeated false (one ∷ one ∷ one ∷ []) ∷ []
    ≡ Some 1 ∷ Some 1 ∷ None ∷ Some 2 ∷ None ∷ None ∷ Some 0 ∷ None ∷ None ∷ []
unfolding opened
repeated_samples = refl
