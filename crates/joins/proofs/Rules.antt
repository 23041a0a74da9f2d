-- The rules of a join: without them it is the join as it was (`forgets`), and they say by which test each arc let the point in, and that its parameter is what that rule grants
-- (`rules_said`). Assumes nothing.
use mathlib.Core.Path.{◌≡◌, refl}
use mathlib.Core.Bool.{false≢true}
use lib.Ieee.{Float}
use Rattle.std.specs.Prelude.{Result, Ok, Err, None, Option, Some}
use Rattle.vectors.specs.declared.Vector2.{Vector2}
use Rattle.segments.specs.declared.RawOffsetLine.{RawOffsetLine}
use Rattle.segments.specs.declared.RawOffsetArc.{RawOffsetArc}
use Rattle.segments.specs.declared.RawOffsetSeg.{RawOffsetSeg}
use Rattle.segments.specs.declared.RawOffsetSeg.TheVariants.{Line, Arc, Collapsed}
use Rattle.segments.specs.declared.Settings.{Settings}
use Rattle.meetings.specs.declared.Meeting.{Meeting}
use Rattle.meetings.specs.declared.Miss.{Miss}
use Rattle.meetings.specs.declared.Miss.TheVariants.{NoMeeting, CandidatesMissed}
use Rattle.meetings.specs.declared.ArcRule.{ArcRule}
use Rattle.meetings.specs.Meetings.{line_line_meeting, line_arc_meeting, arc_line_meeting, arc_arc_meeting}
use Rattle.meetings.specs.Rules.{rule_at, ruled}
use Rattle.meetings.proofs.Rules.{rule↔, grants, Granted, MetGranted, line-arc_granted, arc-line_granted, arc-arc_granted}
use Rattle.joins.specs.declared.JoinCause.{JoinCause}
use Rattle.joins.specs.declared.JoinCause.TheVariants as Cause
use Rattle.joins.specs.declared.JoinTurn.{JoinTurn}
use Rattle.joins.specs.declared.JoinTurn.TheVariants.{Coincident, ZeroTangent, SameDirection, Reversal, Outer, Inner}
use Rattle.joins.specs.declared.JoinBoundary.{JoinBoundary}
use Rattle.joins.specs.Join.{rounded, trimmed_by, inner_join, turn_of, join_by, join_of}
use Rattle.joins.specs.Rules.{of_meeting, ruled_boundary, ruled_join, forgotten, Says, Said}
use Rattle.joins.specs.InnerSteps.{cut_by, settled_by, or_else_join}
use Rattle.joins.proofs.Made.{Made, coincident, cut, outer, reversal, gap, made}

-- ---- as it was
made_untold : {a b shared : Vector2} {offset : Float} {j : JoinBoundary} → Made a b shared offset j → forgotten j ≡ j
unfolding rounded
made_untold coincident = refl
made_untold (cut p s t) = refl
made_untold outer = refl
made_untold reversal = refl
made_untold (gap c g) = refl

-- without its rules a join is what it was before they were told
pub forgets : (current next : RawOffsetSeg) (shared : Vector2) (σ : Settings) → forgotten (ruled_join current next shared σ) ≡ join_of current next shared σ
unfolding ruled_boundary
forgets current next shared σ = made_untold (made current next shared σ)

-- ---- on the way to a boundary: a meeting hands its rules on, and what is settled without one has none
pub ruled_cut : (g h : RawOffsetSeg) (ε : Float) (m : Result Meeting Miss) (a b : Vector2) → cut_by (ruled g h ε m) a b ≡ ruled_boundary g h ε (trimmed_by m a b)
unfolding ruled ruled_boundary
ruled_cut g h ε (Ok m) a b = refl
ruled_cut g h ε (Err NoMeeting) a b = refl
ruled_cut g h ε (Err CandidatesMissed) a b = refl

pub settled_ruled : (turn : JoinTurn) (current next g h : RawOffsetSeg) (shared : Vector2) (σ : Settings) (ε : Float) (inner : JoinBoundary)
    → ruled_boundary g h ε (or_else_join (settled_by turn current next shared σ) inner) ≡ or_else_join (settled_by turn current next shared σ) (ruled_boundary g h ε inner)
unfolding rounded ruled_boundary
settled_ruled Coincident current next g h shared σ ε inner = refl
settled_ruled ZeroTangent current next g h shared σ ε inner = refl
settled_ruled SameDirection current next g h shared σ ε inner = refl
settled_ruled Reversal current next g h shared σ ε inner = refl
settled_ruled Outer current next g h shared σ ε inner = refl
settled_ruled Inner current next g h shared σ ε inner = refl

-- ---- what the rules say
arc_says : (a : RawOffsetArc) (p : Vector2) (ε t : Float) → Granted (Arc a) p ε (Some t) → Says (Arc a) (rule_at (Arc a) p ε) p t ε
arc_says a p ε t h = ((rule↔ a p ε (rule_at (Arc a) p ε)).0 refl, grants a p ε t h)

-- a side that lets in what it grants
abbrev Sayable : RawOffsetSeg → Float → Type 0
Sayable g ε = (p : Vector2) (t : Float) → Granted g p ε (Some t) → Says g (rule_at g p ε) p t ε

unmet : (c : JoinCause) (r : Option ArcRule) → (c ≡ Cause.Met → ⊥) → of_meeting c r ≡ None
unmet Cause.Coincident r n = refl
unmet Cause.Met r n = absurd (n refl)
unmet Cause.OuterTurn r n = refl
unmet Cause.OuterPoint r n = refl
unmet Cause.Reversal r n = refl
unmet Cause.CollapsedSide r n = refl
unmet Cause.NoMeeting r n = refl
unmet Cause.CandidatesMissed r n = refl
unmet Cause.ZeroTangent r n = refl
unmet Cause.SameDirection r n = refl

module _ (g h : RawOffsetSeg) (ε : Float) where
  -- a boundary that is not of a meeting
  none_said : (j : JoinBoundary) → (j.cause ≡ Cause.Met → ⊥) → Said g h ε (ruled_boundary g h ε j)
  unfolding ruled_boundary
  none_said j n = record { ends = λ e. absurd (n e); starts = λ e. absurd (n e); unmet = λ m. (unmet j.cause _ m, unmet j.cause _ m) }

  met-said : Sayable g ε → Sayable h ε → (m : Result Meeting Miss) (a b : Vector2) → MetGranted g h ε m → Said g h ε (ruled_boundary g h ε (trimmed_by m a b))
  met-said s t (Ok m) a b q = unfold ruled_boundary in record { ends = λ e. s _ _ q.0; starts = λ e. t _ _ q.1; unmet = λ n. absurd (n refl) }
  met-said s t (Err NoMeeting) a b q = none_said _ (λ e. false≢true (cc))
  met-said s t (Err CandidatesMissed) a b q = none_said _ (λ e. false≢true (cc))

lines_granted : (a b : RawOffsetLine) (ε : Float) (m : Result Meeting Miss) → MetGranted (Line a) (Line b) ε m
lines_granted a b ε (Ok m) = (tt, tt)
lines_granted a b ε (Err NoMeeting) = tt
lines_granted a b ε (Err CandidatesMissed) = tt

module _ (shared : Vector2) (ε : Float) where
  inner_said : (current next : RawOffsetSeg) → Said current next ε (ruled_boundary current next ε (inner_join current next shared ε))
  inner_said (Line a) (Line b) = met-said (Line a) (Line b) ε (λ p t q. refl) (λ p t q. refl) (line_line_meeting a b ε) a.end b.start (lines_granted a b ε (line_line_meeting a b ε))
  inner_said (Line a) (Arc b) = met-said (Line a) (Arc b) ε (λ p t q. refl) (λ p t q. arc_says b p ε t q) (line_arc_meeting a b shared ε) a.end b.start (line-arc_granted a b ε shared)
  inner_said (Line a) (Collapsed b) = none_said (Line a) (Collapsed b) ε _ (λ e. false≢true (cc))
  inner_said (Arc a) (Line b) = met-said (Arc a) (Line b) ε (λ p t q. arc_says a p ε t q) (λ p t q. refl) (arc_line_meeting a b shared ε) a.end b.start (arc-line_granted b a ε shared)
  inner_said (Arc a) (Arc b) = met-said (Arc a) (Arc b) ε (λ p t q. arc_says a p ε t q) (λ p t q. arc_says b p ε t q) (arc_arc_meeting a b shared ε) a.end b.start (arc-arc_granted a b ε shared)
  inner_said (Arc a) (Collapsed b) = none_said (Arc a) (Collapsed b) ε _ (λ e. false≢true (cc))
  inner_said (Collapsed a) next = none_said (Collapsed a) next ε _ (λ e. false≢true (cc))

by_turn : (turn : JoinTurn) (current next : RawOffsetSeg) (shared : Vector2) (σ : Settings) → Said current next σ.eps (ruled_boundary current next σ.eps (join_by turn current next shared σ))
unfolding rounded
by_turn Coincident current next shared σ = none_said current next σ.eps _ (λ e. false≢true (cc))
by_turn ZeroTangent current next shared σ = none_said current next σ.eps _ (λ e. false≢true (cc))
by_turn SameDirection current next shared σ = none_said current next σ.eps _ (λ e. false≢true (cc))
by_turn Reversal current next shared σ = none_said current next σ.eps _ (λ e. false≢true (cc))
by_turn Outer current next shared σ = none_said current next σ.eps _ (λ e. false≢true (cc))
by_turn Inner current next shared σ = inner_said shared σ.eps current next

pub rules_said : (current next : RawOffsetSeg) (shared : Vector2) (σ : Settings) → Said current next σ.eps (ruled_join current next shared σ)
unfolding join_of
rules_said current next shared σ = by_turn (turn_of current next σ) current next shared σ
