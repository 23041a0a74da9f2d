-- The code's steps on the way to a join. No rule rests on these: the rules are `tangent_turn` and `join_by`. Definitions only.
use Rattle.std.specs.Prelude.{◌≡◌, Bool, true, false, T, Result, Ok, Err, Option, Some, None, Float}
use Rattle.std.specs.Float.Ieee.{lt, le, is_nan}
use Rattle.floats.specs.Binary64.{◌⊗◌, zero, one, fuzzy}
use Rattle.floats.specs.Choice.{when◌give◌else◌}
use Rattle.floats.specs.Size.{abs_of}
use Rattle.vectors.specs.declared.Vector2.{Vector2}
use Rattle.segments.specs.declared.Settings.{Settings}
use Rattle.segments.specs.declared.RawOffsetSeg.{RawOffsetSeg}
use Rattle.segments.specs.declared.RawOffsetSeg.TheVariants as Full
use Rattle.segments.specs.declared.CarriedArc.{CarriedArc}
use Rattle.segments.specs.declared.CarriedSeg.{CarriedSeg}
use Rattle.segments.specs.declared.CarriedSeg.TheVariants.{Line, Arc, Collapsed}
use Rattle.segments.specs.InnerSteps.{full_seg}
use Rattle.meetings.specs.declared.Meeting.{Meeting}
use Rattle.meetings.specs.declared.Miss.{Miss}
use Rattle.meetings.specs.declared.Miss.TheVariants.{NoMeeting, CandidatesMissed}
use Rattle.meetings.specs.declared.SeenArc.{SeenArc}
use Rattle.meetings.specs.InnerSteps.{angled}
use Rattle.joins.specs.declared.Joined.{Joined}
use Rattle.joins.specs.declared.JoinTurn.{JoinTurn}
use Rattle.joins.specs.declared.JoinTurn.TheVariants.{Coincident, ZeroTangent, SameDirection, Reversal, Outer, Inner}
use Rattle.joins.specs.declared.JoinClass.{JoinClass}
use Rattle.joins.specs.declared.JoinClass.TheVariants as Class
use Rattle.joins.specs.declared.JoinCause.{JoinCause}
use Rattle.joins.specs.declared.JoinCause.TheVariants as Cause
use Rattle.joins.specs.declared.JoinBoundary.{JoinBoundary}
use Rattle.joins.specs.Boundary.{straight, trimmed}
use Rattle.joins.specs.Join.{join_by}
use Rattle.joins.specs.Rules.{telling}

-- the last two tests of `tangent_turn`, by the numbers that they look at
unfoldable pub last_turn : (turn alignment incomingLenSq outgoingLenSq offset : Float) → JoinTurn
last_turn turn alignment incomingLenSq outgoingLenSq offset =
    when le (turn ⊗ turn) (fuzzy ⊗ fuzzy ⊗ incomingLenSq ⊗ outgoingLenSq) give (when lt alignment zero give Reversal else SameDirection) else
    when lt zero (offset ⊗ turn) give Inner else Outer

-- the boundary of every cause but an inner turn
abbrev pub settled_by : JoinTurn → RawOffsetSeg → RawOffsetSeg → Vector2 → Settings → Option JoinBoundary
settled_by Coincident current next shared σ = Some (join_by Coincident current next shared σ)
settled_by ZeroTangent current next shared σ = Some (join_by ZeroTangent current next shared σ)
settled_by SameDirection current next shared σ = Some (join_by SameDirection current next shared σ)
settled_by Reversal current next shared σ = Some (join_by Reversal current next shared σ)
settled_by Outer current next shared σ = Some (join_by Outer current next shared σ)
settled_by Inner current next shared σ = None

-- what is settled is taken at once, and the rest is left to the intersection
abbrev pub or_else_join : Option JoinBoundary → JoinBoundary → JoinBoundary
or_else_join (Some b) inner = b
or_else_join None inner = inner

-- ---- a boundary made of a meeting, with the rules that the meeting tells
abbrev pub cut_at : Meeting → JoinBoundary
cut_at m = telling m.current_rule m.next_rule (trimmed m.point m.current_param m.next_param)

abbrev pub cut_by : Result Meeting Miss → Vector2 → Vector2 → JoinBoundary
cut_by (Ok m) a b = cut_at m
cut_by (Err NoMeeting) a b = straight Cause.NoMeeting a b
cut_by (Err CandidatesMissed) a b = straight Cause.CandidatesMissed a b

-- ---- a carried segment, with its start angle as it was seen, if it is an arc
abbrev pub seen_arc : Float → CarriedArc → SeenArc
seen_arc s a = record { start = a.start; end = a.end; center = a.center; radius = a.radius; sweep = a.sweep; seen = s }

abbrev pub seen_seg : Float → CarriedSeg → RawOffsetSeg
seen_seg s (Line l) = Full.Line l
seen_seg s (Arc a) = Full.Arc (angled (seen_arc s a))
seen_seg s (Collapsed a) = Full.Collapsed a

abbrev pub joined : JoinBoundary → Float → Joined
joined b s = record { boundary = b; seen = s }

-- r has the boundary b, and what it has seen of the next segment's start angle is that start angle
pub record Joins (r : Joined) (b : JoinBoundary) (next : CarriedSeg) : Type 0 where
  pub boundary : r.boundary ≡ b
  pub seen : seen_seg r.seen next ≡ full_seg next

-- ---- 000's class of each cause. A flag is read off a reason; `connector-flag` (crates/moves/proofs/Flags.antt) ties the two.
abbrev pub class_of : JoinCause → JoinClass
class_of Cause.Coincident = Class.Coincident
class_of Cause.Met = Class.Trimmed
class_of Cause.OuterTurn = Class.OuterRound
class_of Cause.OuterPoint = Class.OuterRound
class_of Cause.Reversal = Class.ReversalRound
class_of Cause.CollapsedSide = Class.InvalidInnerGap
class_of Cause.NoMeeting = Class.InvalidInnerGap
class_of Cause.CandidatesMissed = Class.InvalidInnerGap
class_of Cause.ZeroTangent = Class.InvalidDegenerateGap
class_of Cause.SameDirection = Class.InvalidDegenerateGap

-- the two gap classes
abbrev pub is_gap : JoinClass → Bool
is_gap Class.Coincident = false
is_gap Class.Trimmed = false
is_gap Class.OuterRound = false
is_gap Class.ReversalRound = false
is_gap Class.InvalidInnerGap = true
is_gap Class.InvalidDegenerateGap = true

-- ---- demand 3 of a connector's bulge b: at most 1 in size where it is a number, and never of the offset's sign (a zero has none)
pub record ConnectorBound (offset b : Float) : Type 0 where
  pub small : is_nan b ≡ false → T (le (abs_of b) one)
  pub not_both_above : T (lt zero offset) → T (lt zero b) → ⊥
  pub not_both_below : T (lt offset zero) → T (lt b zero) → ⊥
