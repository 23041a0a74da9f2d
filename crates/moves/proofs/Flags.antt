-- A flag that is read off a reason is the one of 01 §2: a span is invalid where it is collapsed or does not run forward (`span-flag`), a connector where its join is of a gap
-- class (`connector-flag`). Assumes nothing.
use mathlib.Core.Path.{◌≡◌, refl}
use mathlib.Core.Bool.{Bool, true, false}
use lib.Ieee.{Float, le}
use Rattle.floats.specs.Choice.{when◌give◌else◌, ◌or◌}
use Rattle.segments.specs.declared.RawOffsetSeg.{RawOffsetSeg}
use Rattle.segments.specs.Segment.{is_collapsed}
use Rattle.segments.specs.InnerSteps.{span_is_invalid}
use Rattle.joins.specs.declared.JoinCause.{JoinCause}
use Rattle.joins.specs.declared.JoinCause.TheVariants.{Coincident, Met, OuterTurn, OuterPoint, Reversal, CollapsedSide, NoMeeting, CandidatesMissed, ZeroTangent, SameDirection}
use Rattle.joins.specs.InnerSteps.{class_of, is_gap}
use Rattle.moves.specs.declared.Reason.TheVariants as Reason
use Rattle.moves.specs.Reason.{span_reason, connector_reason, is_invalid}

by_tests : (collapsed back : Bool) → is_invalid (when collapsed give Reason.CollapsedArc else when back give Reason.TurnedBack else Reason.InOrder) ≡ (collapsed or back)
unfolding when◌give◌else◌ ◌or◌
by_tests true back = refl
by_tests false true = refl
by_tests false false = refl

pub span-flag : (g : RawOffsetSeg) (from to : Float) → is_invalid (span_reason g from to) ≡ span_is_invalid g from to
unfolding span_reason
span-flag g from to = by_tests (is_collapsed g) (le to from)

pub connector-flag : (c : JoinCause) → is_invalid (connector_reason c) ≡ is_gap (class_of c)
connector-flag Coincident = refl
connector-flag Met = refl
connector-flag OuterTurn = refl
connector-flag OuterPoint = refl
connector-flag Reversal = refl
connector-flag CollapsedSide = refl
connector-flag NoMeeting = refl
connector-flag CandidatesMissed = refl
connector-flag ZeroTangent = refl
connector-flag SameDirection = refl
