-- Values of the definitions by computation: each outcome at least once. What they should be was worked out from 01's rules by another program.
-- Assumes nothing.
use mathlib.Core.Path.{◌≡◌, refl}
use Prim.Native.Nat.{ℕ}
use lib.Ieee.{Float, binary64, of_bits, neg, add, sub, mul, div, lt, le}
use Rattle.floats.specs.Choice.{when◌give◌else◌, ◌and◌, ◌or◌}
use Rattle.floats.specs.Size.{abs_of, within}
use Rattle.floats.specs.Root.{sqrt_of}
use Rattle.vectors.specs.Plane.{◌⊞◌, ◌⊟◌, ◌⊡◌, dot, cross, perp, length_squared_of, length_of}
use Rattle.vectors.specs.declared.Vector2.{Vector2}
use Rattle.intersections.specs.Points.{point_at, parameter_of, distance_squared}
use Rattle.intersections.specs.Lines.{in_span, line_line}
use Rattle.intersections.specs.LineCircle.{line_circle}
use Rattle.intersections.specs.Circles.{circle_circle}
use Rattle.intersections.specs.declared.LineLineIntr.TheVariants as Lines
use Rattle.intersections.specs.declared.LineCircleIntr.TheVariants as OneLine
use Rattle.intersections.specs.declared.CircleCircleIntr.TheVariants as Circles

-- what a value is computed by
unfoldable pub opened : Unit {0}
unfolding of_bits neg add sub mul div lt le when◌give◌else◌ ◌and◌ ◌or◌ abs_of within sqrt_of ◌⊞◌ ◌⊟◌ ◌⊡◌ dot cross perp length_squared_of length_of point_at parameter_of distance_squared in_span line_line line_circle circle_circle
opened = tt

abbrev num : ℕ → Float
num b = of_bits binary64 b

abbrev at : ℕ → ℕ → Vector2
at x y = record { x = num x; y = num y }

-- a point, parameters by x, by y and by x where p.x and q.x are just ε apart, squared distances
pub points :
    (point_at (at 0 0x3ff0_0000_0000_0000) (at 0x4010_0000_0000_0000 0x3ff0_0000_0000_0000) (num 0x3fe8_0000_0000_0000) ≡ at 0x4008_0000_0000_0000 0x3ff0_0000_0000_0000)
    × (point_at (at 0x3fb9_9999_9999_999a 0x3fc9_9999_9999_999a) (at 0x3fe6_6666_6666_6666 0xbfd9_9999_9999_999a) (num 0x3fd5_5555_5555_5555) ≡ at 0x3fd3_3333_3333_3333 0)
    × (parameter_of (at 0 0) (at 0x4010_0000_0000_0000 0x4000_0000_0000_0000) (at 0x3ff0_0000_0000_0000 0x401c_0000_0000_0000) (num 0x3ee4_f8b5_88e3_68f1) ≡ num 0x3fd0_0000_0000_0000)
    × (parameter_of (at 0x4008_0000_0000_0000 0) (at 0x4008_0000_0000_0000 0x4010_0000_0000_0000) (at 0x4022_0000_0000_0000 0x3ff0_0000_0000_0000) (num 0x3ee4_f8b5_88e3_68f1) ≡ num 0x3fd0_0000_0000_0000)
    × (parameter_of (at 0 0) (at 0x3ee4_f8b5_88e3_68f1 0x4010_0000_0000_0000) (at 0 0x3ff0_0000_0000_0000) (num 0x3ee4_f8b5_88e3_68f1) ≡ num 0)
    × (distance_squared (at 0x4008_0000_0000_0000 0x4010_0000_0000_0000) (at 0 0) ≡ num 0x4039_0000_0000_0000)
    × (distance_squared (at 0x3fb9_9999_9999_999a 0x3fe6_6666_6666_6666) (at 0x3fd3_3333_3333_3333 0xbfc9_9999_9999_999a) ≡ num 0x3feb_3333_3333_3332)
unfolding opened
points = (refl, refl, refl, refl, refl, refl, refl)

-- true; false; past |D| = ε; overlapping and none by the second line's end as given, which its start plus u would turn round; none beside; a NaN gives none
pub lines :
    (line_line (at 0 0x3ff0_0000_0000_0000) (at 0x4010_0000_0000_0000 0x3ff0_0000_0000_0000) (at 0x4008_0000_0000_0000 0) (at 0x4008_0000_0000_0000 0x4010_0000_0000_0000) (num 0x3ee4_f8b5_88e3_68f1) ≡ Lines.TrueIntersect (num 0x3fe8_0000_0000_0000) (num 0x3fd0_0000_0000_0000))
    × (line_line (at 0x3fb9_9999_9999_999a 0x3fc9_9999_9999_999a) (at 0x3fec_cccc_cccc_cccd 0x3fd3_3333_3333_3333) (at 0x3fd9_9999_9999_999a 0xbfe0_0000_0000_0000)
    (at 0x3fe6_6666_6666_6666 0x3fe9_9999_9999_999a) (num 0x3ee4_f8b5_88e3_68f1) ≡ Lines.TrueIntersect (num 0x3fe3_0288_df0c_ac5b) (num 0x3fe2_b16c_fd77_20f3))
    × (line_line (at 0 0x4000_0000_0000_0000) (at 0x4010_0000_0000_0000 0x4000_0000_0000_0000) (at 0x4000_0000_0000_0000 0) (at 0x4000_0000_0000_0000 0x3ff0_0000_0000_0000) (num 0x3ee4_f8b5_88e3_68f1) ≡ Lines.FalseIntersect (num 0x3fe0_0000_0000_0000) (num 0x4000_0000_0000_0000))
    × (line_line (at 0 0) (at 0x3ff0_0000_0000_0000 0) (at 0 0) (at 0x3ff0_0000_0000_0000 0x3f84_7ae1_47ae_147b) (num 0x3f84_7ae1_47ae_147b) ≡ Lines.TrueIntersect (num 0) (num 0))
    × (line_line (at 0xbf31_9abb_6b30_06a4 0xbf4c_f78c_29b3_1fd3) (at 0x3fd8_1a0e_3f93_20ea 0x3fdd_8b30_093b_2156) (at 0xbfe8_1e74_ee6d_ecec 0xbfed_99ab_cf4f_fae6) (at 0xbf31_9abb_6b30_06a4 0xbf4c_f78c_29b3_1fd3) (num 0x3f84_7ae1_47ae_147b) ≡ Lines.Overlapping)
    × (line_line (at 0xbf49_0c61_d675_85f2 0xbf39_1a48_9aa9_2694) (at 0x3fdd_0254_5271_f4b2 0x3fd4_68b4_0d06_46d8) (at 0xbfed_0eda_835d_2f75 0xbfe4_6efa_9f2c_f122) (at 0xbf49_0c61_d675_85f3 0xbf39_1a48_9aa9_2694) (num 0x3f84_7ae1_47ae_147b) ≡ Lines.NoIntersect)
    × (line_line (at 0 0) (at 0x4010_0000_0000_0000 0) (at 0 0x3ff0_0000_0000_0000) (at 0x4010_0000_0000_0000 0x3ff0_0000_0000_0000) (num 0x3ee4_f8b5_88e3_68f1) ≡ Lines.NoIntersect)
    × (line_line (at 0x7ff8_0000_0000_0000 0) (at 0x4010_0000_0000_0000 0) (at 0x3ff0_0000_0000_0000 0xbff0_0000_0000_0000) (at 0x3ff0_0000_0000_0000 0x3ff0_0000_0000_0000) (num 0x3ee4_f8b5_88e3_68f1) ≡ Lines.NoIntersect)
unfolding opened
lines = (refl, refl, refl, refl, refl, refl, refl, refl)

-- two; none; tangent; the root of a number below zero
pub line_circle_lem :
    (line_circle (at 0xc000_0000_0000_0000 0) (at 0x4000_0000_0000_0000 0) (num 0x3ff0_0000_0000_0000) (at 0 0) (num 0x3ee4_f8b5_88e3_68f1) ≡ OneLine.TwoIntersects (num 0x3fd0_0000_0000_0000) (num 0x3fe8_0000_0000_0000))
    × (line_circle (at 0x3fd3_3333_3333_3333 0x3fb9_9999_9999_999a) (at 0x3ffb_3333_3333_3333 0x3fec_cccc_cccc_cccd) (num 0x3fe9_9999_9999_999a) (at 0x3ff1_9999_9999_999a 0x3fc9_9999_9999_999a)
    (num 0x3ee4_f8b5_88e3_68f1) ≡ OneLine.TwoIntersects (num 0x3f71_24f7_dd8a_5480) (num 0x3fed_678e_adce_c3f5))
    × (line_circle (at 0xc000_0000_0000_0000 0) (at 0x4000_0000_0000_0000 0) (num 0x3ff0_0000_0000_0000) (at 0 0x4014_0000_0000_0000) (num 0x3ee4_f8b5_88e3_68f1) ≡ OneLine.NoIntersect)
    × (line_circle (at 0xc000_0000_0000_0000 0) (at 0x4000_0000_0000_0000 0) (num 0x3ff0_0000_0000_0000) (at 0 0x3ff0_0000_0000_0000) (num 0x3ee4_f8b5_88e3_68f1) ≡ OneLine.TangentIntersect (num 0x3fe0_0000_0000_0000))
    × (line_circle (at 0xc000_0000_0000_0000 0) (at 0x4000_0000_0000_0000 0) (num 0x3ff0_0000_0000_0000) (at 0x3fe0_0000_0000_0000 0x3ff0_000a_7c5a_c472) (num 0x3ee4_f8b5_88e3_68f1) ≡ OneLine.TwoIntersects (num 0x7ff8_0000_0000_0000) (num 0x7ff8_0000_0000_0000))
unfolding opened
line_circle_lem = (refl, refl, refl, refl, refl)

-- two; overlapping; none about one centre, too far and inside; tangent from outside, from inside and by k; a NaN
pub circles :
    (circle_circle (num 0x4014_0000_0000_0000) (at 0 0) (num 0x4014_0000_0000_0000) (at 0x4018_0000_0000_0000 0) (num 0x3ee4_f8b5_88e3_68f1) ≡ Circles.TwoIntersects (at 0x4008_0000_0000_0000 0x4010_0000_0000_0000) (at 0x4008_0000_0000_0000 0xc010_0000_0000_0000))
    × (circle_circle (num 0x3ff4_cccc_cccc_cccd) (at 0x3fb9_9999_9999_999a 0xbfc9_9999_9999_999a) (num 0x3fec_cccc_cccc_cccd) (at 0x3ff1_9999_9999_999a 0x3fe6_6666_6666_6666)
    (num 0x3ee4_f8b5_88e3_68f1) ≡ Circles.TwoIntersects (at 0x3fd2_615f_a8bf_1b10 0x3ff1_621b_78f2_bcc0) (at 0x3ff6_6248_30f8_1bd1 0xbfc3_0e98_74b4_2a76))
    × (circle_circle (num 0x3ff0_0000_0000_0000) (at 0 0) (num 0x3ff0_0000_0000_0000) (at 0 0) (num 0x3ee4_f8b5_88e3_68f1) ≡ Circles.Overlapping)
    × (circle_circle (num 0x3ff0_0000_0000_0000) (at 0 0) (num 0x4000_0000_0000_0000) (at 0 0) (num 0x3ee4_f8b5_88e3_68f1) ≡ Circles.NoIntersect)
    × (circle_circle (num 0x3ff0_0000_0000_0000) (at 0 0) (num 0x3ff0_0000_0000_0000) (at 0x4014_0000_0000_0000 0) (num 0x3ee4_f8b5_88e3_68f1) ≡ Circles.NoIntersect)
    × (circle_circle (num 0x4014_0000_0000_0000) (at 0 0) (num 0x3ff0_0000_0000_0000) (at 0x3ff0_0000_0000_0000 0) (num 0x3ee4_f8b5_88e3_68f1) ≡ Circles.NoIntersect)
    × (circle_circle (num 0x3ff0_0000_0000_0000) (at 0 0) (num 0x4000_0000_0000_0000) (at 0x4008_0000_0000_0000 0) (num 0x3ee4_f8b5_88e3_68f1) ≡ Circles.TangentIntersect (at 0x3ff0_0000_0000_0000 0))
    × (circle_circle (num 0x4008_0000_0000_0000) (at 0 0) (num 0x3ff0_0000_0000_0000) (at 0 0x4000_0000_0000_0000) (num 0x3ee4_f8b5_88e3_68f1) ≡ Circles.TangentIntersect (at 0 0x4008_0000_0000_0000))
    × (circle_circle (num 0x3ff0_0000_0000_0000) (at 0 0) (num 0x3ff0_0000_0000_0000) (at 0x4002_0000_0000_0000 0) (num 0x3fd0_0000_0000_0000) ≡ Circles.TangentIntersect (at 0x3ff2_0000_0000_0000 0))
    × (circle_circle (num 0x7ff8_0000_0000_0000) (at 0 0) (num 0x3ff0_0000_0000_0000) (at 0x3ff0_0000_0000_0000 0) (num 0x3ee4_f8b5_88e3_68f1) ≡ Circles.TwoIntersects (at 0x7ff8_0000_0000_0000 0x7ff8_0000_0000_0000) (at 0x7ff8_0000_0000_0000 0x7ff8_0000_0000_0000))
unfolding opened
circles = (refl, refl, refl, refl, refl, refl, refl, refl, refl, refl)
