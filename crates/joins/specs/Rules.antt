-- The rules that a join tells (02's 2026-06): where two segments met, that by which each of them, if it is an arc, let the point of the meeting in. All else of a join is as
-- it was (`forgets`, in proofs/Rules.antt). Definitions only.
use Rattle.std.specs.Prelude.{◌≡◌, None, Option, Float}
use Rattle.vectors.specs.declared.Vector2.{Vector2}
use Rattle.segments.specs.declared.Settings.{Settings}
use Rattle.segments.specs.declared.RawOffsetSeg.{RawOffsetSeg}
use Rattle.segments.specs.declared.RawOffsetSeg.TheVariants.{Line, Arc, Collapsed}
use Rattle.meetings.specs.declared.ArcRule.{ArcRule}
use Rattle.meetings.specs.Rules.{rule_at, FirstPassed, Grants}
use Rattle.joins.specs.declared.JoinCause.{JoinCause}
use Rattle.joins.specs.declared.JoinCause.TheVariants.{Coincident, Met, OuterTurn, OuterPoint, Reversal, CollapsedSide, NoMeeting, CandidatesMissed, ZeroTangent, SameDirection}
use Rattle.joins.specs.declared.JoinBoundary.{JoinBoundary}
use Rattle.joins.specs.Join.{join_of}

-- a boundary with two rules
abbrev pub telling : Option ArcRule → Option ArcRule → JoinBoundary → JoinBoundary
telling r q j = record {
  cause = j.cause;
  current_rule = r;
  next_rule = q;
  current_end = j.current_end;
  current_param = j.current_param;
  next_start = j.next_start;
  next_param = j.next_param;
  connector_bulge = j.connector_bulge;
  tip = j.tip;
}

-- a rule is told of a meeting alone
abbrev pub of_meeting : JoinCause → Option ArcRule → Option ArcRule
of_meeting Coincident r = None
of_meeting Met r = r
of_meeting OuterTurn r = None
of_meeting OuterPoint r = None
of_meeting Reversal r = None
of_meeting CollapsedSide r = None
of_meeting NoMeeting r = None
of_meeting CandidatesMissed r = None
of_meeting ZeroTangent r = None
of_meeting SameDirection r = None

-- a boundary of two segments with the rules by which they let its point in
unfoldable pub ruled_boundary : RawOffsetSeg → RawOffsetSeg → Float → JoinBoundary → JoinBoundary
ruled_boundary current next ε j =
    telling (of_meeting j.cause (rule_at current j.current_end ε)) (of_meeting j.cause (rule_at next j.next_start ε)) j

-- the join with its rules
abbrev pub ruled_join : RawOffsetSeg → RawOffsetSeg → Vector2 → Settings → JoinBoundary
ruled_join current next shared σ = ruled_boundary current next σ.eps (join_of current next shared σ)

-- and without them
abbrev pub forgotten : JoinBoundary → JoinBoundary
forgotten j = telling None None j

-- ---- what the rule r of one side says, where the boundary has the point p and the side's parameter t: of an arc that r's test is the first that passes, and that t is what r
-- grants; of a line that there is none. A collapsed side does not meet.
abbrev pub Says : RawOffsetSeg → Option ArcRule → Vector2 → Float → Float → Type 0
Says (Line l) r p t ε = r ≡ None
Says (Arc a) r p t ε = FirstPassed r a p ε × Grants r a p t
Says (Collapsed a) r p t ε = ⊥

-- where the two met, each rule says so of its side; elsewhere there is none
pub record Said (current next : RawOffsetSeg) (ε : Float) (j : JoinBoundary) : Type 0 where
  pub ends : j.cause ≡ Met → Says current j.current_rule j.current_end j.current_param ε
  pub starts : j.cause ≡ Met → Says next j.next_rule j.next_start j.next_param ε
  pub unmet : (j.cause ≡ Met → ⊥) → (j.current_rule ≡ None) × (j.next_rule ≡ None)
