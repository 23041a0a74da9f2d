-- The size of a connector's bulge at some numbers, and a join of each class, by computation: as a machine gives them. Assumes nothing.
use mathlib.Core.Path.{◌≡◌, refl}
use Prim.Native.Nat.{ℕ}
use lib.Ieee.{Float, binary64, of_bits, neg, lt, le, add, sub, mul, div}
use Rattle.floats.specs.Binary64.{zero, one, two, four}
use Rattle.floats.specs.Choice.{when◌give◌else◌, ◌and◌, ◌or◌}
use Rattle.floats.specs.Size.{abs_of, within}
use Rattle.floats.specs.Root.{sqrt_of}
use Rattle.vectors.specs.declared.Vector2.{Vector2}
use Rattle.vectors.specs.Plane.{◌⊞◌, ◌⊟◌, ◌⊡◌, dot, cross, length_squared_of, length_of, normalized, near}
use Rattle.intersections.specs.Lines.{in_span, line_line}
use Rattle.intersections.specs.Points.{point_at}
use Rattle.segments.specs.declared.RawOffsetSeg.{RawOffsetSeg}
use Rattle.segments.specs.Modes.{round_by}
use Rattle.segments.specs.declared.RawOffsetSeg.TheVariants.{Line, Collapsed}
use Rattle.meetings.specs.Meetings.{line_line_meeting, clamp_param, meeting_point}
use Rattle.joins.specs.declared.JoinCause.TheVariants as Cause
use Rattle.joins.specs.declared.JoinBoundary.{JoinBoundary}
use Rattle.joins.specs.Boundary.{connected, straight, trimmed}
use Rattle.joins.specs.Connector.{clamp_cos, clamp_sin, bulge_size, connector_bulge_of}
use Rattle.joins.specs.Join.{tangent_turn, turn_of, rounded, join_of}

-- dot, cross and size, as bits
abbrev Size : ℕ → ℕ → ℕ → Type 0
Size dot cross size = bulge_size (clamp_cos (of_bits binary64 dot)) (clamp_sin (abs_of (of_bits binary64 cross))) ≡ of_bits binary64 size

-- a quarter circle, a half circle, none; 0.6 and -0.8; -0.6 and 0.8; just short of a half circle; -2 and 0; an infinity each
sizes : Size 0x0000000000000000 0x3ff0000000000000 0x3fda827999fcef33
    × Size 0xbff0000000000000 0x0000000000000000 0x3ff0000000000000
    × Size 0x3ff0000000000000 0x0000000000000000 0x0000000000000000
    × Size 0x3fe3333333333333 0xbfe999999999999a 0x3fce3779b97f4a7c
    × Size 0xbfe3333333333333 0x3fe999999999999a 0x3fe3c6ef372fe950
    × Size 0xbfefffffffffffff 0x3e45798ee2308c3a 0x3feffffffd50ce24
    × Size 0xc000000000000000 0x0000000000000000 0x3ff0000000000000
    × Size 0x7ff0000000000000 0xfff0000000000000 0x3fd0000000000000
unfolding clamp_cos clamp_sin bulge_size when◌give◌else◌ abs_of sqrt_of of_bits neg lt le add sub mul div
sizes = (refl, refl, refl, refl, refl, refl, refl, refl)

-- ---- joins of every class, by lines, at ε = 1e-5
abbrev f : ℕ → Float
f bits = of_bits binary64 bits

abbrev minus_one : Float
minus_one = f 0xbff0000000000000

abbrev three : Float
three = f 0x4008000000000000

abbrev five : Float
five = f 0x4014000000000000

abbrev at : Float → Float → Vector2
at x y = record { x = x; y = y }

abbrev line : Vector2 → Vector2 → RawOffsetSeg
line a b = Line (record { start = a; end = b })

abbrev collapsed : Vector2 → Vector2 → Vector2 → Vector2 → RawOffsetSeg
collapsed a b t u = Collapsed (record { start = a; end = b; start_tangent = t; end_tangent = u })

abbrev join : RawOffsetSeg → RawOffsetSeg → Vector2 → Float → JoinBoundary
join current next shared offset = join_of current next shared (round_by offset (f 0x3ee4f8b588e368f1))

joins : join (line (at zero one) (at four one)) (line (at four one) (at five one)) (at four zero) one ≡ straight Cause.Coincident (at four one) (at four one)
    × join (line (at zero one) (at four one)) (line (at three zero) (at three four)) (at four zero) one ≡ trimmed (at three one) (f 0x3fe8000000000000) (f 0x3fd0000000000000)
    × join (line (at zero minus_one) (at four minus_one)) (line (at five zero) (at five four)) (at four zero) minus_one ≡ connected Cause.OuterTurn (at four minus_one) (at five zero) (f 0x3fda827999fcef33)
    × join (line (at zero one) (at four one)) (line (at four minus_one) (at zero minus_one)) (at four zero) one ≡ connected Cause.Reversal (at four one) (at four minus_one) minus_one
    × join (line (at zero two) (at four two)) (line (at two zero) (at two one)) (at four zero) two ≡ straight Cause.CandidatesMissed (at four two) (at two zero)
    × join (line (at zero one) (at four one)) (collapsed (at three zero) (at three four) (at zero one) (at zero one)) (at four zero) one ≡ straight Cause.CollapsedSide (at four one) (at three zero)
    × join (line (at zero one) (at three one)) (line (at four one) (at five one)) (at four zero) one ≡ straight Cause.SameDirection (at three one) (at four one)
    × join (line (at three one) (at three one)) (line (at four one) (at five one)) (at four zero) one ≡ straight Cause.ZeroTangent (at three one) (at four one)
unfolding join_of turn_of tangent_turn rounded connector_bulge_of clamp_cos clamp_sin bulge_size line_line_meeting clamp_param meeting_point in_span line_line point_at ◌⊞◌ ◌⊟◌ ◌⊡◌ dot cross length_squared_of length_of normalized near when◌give◌else◌ ◌and◌ ◌or◌ abs_of within sqrt_of of_bits neg lt le add sub mul div
joins = (refl, refl, refl, refl, refl, refl, refl, refl)
