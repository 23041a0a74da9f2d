-- Why a move's flag is set or clear (01 §2, Invalid moves; 000's span_is_invalid and connector_is_invalid): the flag is read off the reason. Definitions only.
use Rattle.std.specs.Prelude.{ℕ, Bool, true, false, Float}
use Rattle.std.specs.Float.Ieee.{le}
use Rattle.floats.specs.Choice.{when◌give◌else◌}
use Rattle.segments.specs.declared.RawOffsetSeg.{RawOffsetSeg}
use Rattle.segments.specs.Segment.{is_collapsed}
use Rattle.joins.specs.declared.JoinCause.{JoinCause}
use Rattle.joins.specs.declared.JoinCause.TheVariants as Cause
use Rattle.moves.specs.declared.Reason.{Reason}
use Rattle.moves.specs.declared.Reason.TheVariants.{InOrder, TurnedBack, CollapsedArc, Round, Reversal, Meeting, CollapsedSide, NoMeeting, CandidatesMissed, ZeroTangent, SameDirection, Copied, Pointed}
use Rattle.moves.specs.declared.Move.{Move}

-- as callers get it (02's 2026-01, and 2026-13 the last)
abbrev pub reason_number : Reason → ℕ
reason_number InOrder = 1
reason_number TurnedBack = 2
reason_number CollapsedArc = 3
reason_number Round = 4
reason_number Reversal = 5
reason_number Meeting = 6
reason_number CollapsedSide = 7
reason_number NoMeeting = 8
reason_number CandidatesMissed = 9
reason_number ZeroTangent = 10
reason_number SameDirection = 11
reason_number Copied = 12
reason_number Pointed = 13

-- a span: collapsed goes before turned back, which is an end parameter at most the start parameter
unfoldable pub span_reason : RawOffsetSeg → Float → Float → Reason
span_reason g from to = when is_collapsed g give CollapsedArc else when le to from give TurnedBack else InOrder

-- a connector: by its join's cause
abbrev pub connector_reason : JoinCause → Reason
connector_reason Cause.Coincident = Meeting
connector_reason Cause.Met = Meeting
connector_reason Cause.OuterTurn = Round
connector_reason Cause.OuterPoint = Pointed
connector_reason Cause.Reversal = Reversal
connector_reason Cause.CollapsedSide = CollapsedSide
connector_reason Cause.NoMeeting = NoMeeting
connector_reason Cause.CandidatesMissed = CandidatesMissed
connector_reason Cause.ZeroTangent = ZeroTangent
connector_reason Cause.SameDirection = SameDirection

abbrev pub is_invalid : Reason → Bool
is_invalid InOrder = false
is_invalid TurnedBack = true
is_invalid CollapsedArc = true
is_invalid Round = false
is_invalid Reversal = false
is_invalid Meeting = false
is_invalid CollapsedSide = true
is_invalid NoMeeting = true
is_invalid CandidatesMissed = true
is_invalid ZeroTangent = true
is_invalid SameDirection = true
is_invalid Copied = false
is_invalid Pointed = false

abbrev pub invalid_move : Move → Bool
invalid_move m = is_invalid m.reason
