-- Every join is of one of five makes (`made`), whatever comes in. So its connector's bulge is at most 1 in size where it is a number and never of the
-- offset's sign (`join_bound`), it is zero but in the two round classes (`round-only`), and a coincident or trimmed boundary has one point (`equal-ends`),
-- as has each whose ends are within ε (`near-one-point`, `near-class`). None has a tip (`join_unpointed`). A collapsed side never meets (`collapsed_never_meets`). Assumes nothing.
use mathlib.Core.Path.{◌≡◌, refl, sym, ◌∙◌}
use mathlib.Core.Bool.{Bool, true, false, false≢true}
use lib.Ieee.{Float, of_bits, lt, le}
use Rattle.std.specs.Prelude.{Result, Ok, Err}
use Rattle.floats.specs.Binary64.{zero}
use Rattle.floats.specs.Choice.{when◌give◌else◌, ◌or◌}
use Rattle.floats.specs.Size.{abs_of}
use Rattle.vectors.specs.Plane.{near}
use Rattle.vectors.specs.declared.Vector2.{Vector2}
use Rattle.segments.specs.declared.RawOffsetSeg.{RawOffsetSeg}
use Rattle.segments.specs.declared.Settings.{Settings}
use Rattle.segments.specs.declared.RawOffsetSeg.TheVariants.{Line, Arc, Collapsed}
use Rattle.segments.specs.Segment.{start_of, end_of, is_collapsed}
use Rattle.meetings.specs.declared.Meeting.{Meeting}
use Rattle.meetings.specs.declared.Miss.{Miss}
use Rattle.meetings.specs.declared.Miss.TheVariants.{NoMeeting, CandidatesMissed}
use Rattle.meetings.specs.Meetings.{line_line_meeting, line_arc_meeting, arc_line_meeting, arc_arc_meeting}
use Rattle.joins.specs.declared.JoinClass.{JoinClass}
use Rattle.joins.specs.declared.JoinClass.TheVariants as Class
use Rattle.joins.specs.declared.JoinCause.{JoinCause}
use Rattle.joins.specs.declared.JoinCause.TheVariants as Cause
use Rattle.joins.specs.declared.JoinTurn.{JoinTurn}
use Rattle.joins.specs.declared.JoinTurn.TheVariants.{Coincident, ZeroTangent, SameDirection, Reversal, Outer, Inner}
use Rattle.joins.specs.declared.JoinBoundary.{JoinBoundary}
use Rattle.joins.specs.Boundary.{straight, trimmed}
use Rattle.joins.specs.InnerSteps.{class_of, is_gap}
use Rattle.joins.specs.InnerSteps.{ConnectorBound}
use Rattle.joins.specs.Corner.{is_pointed}
use Rattle.joins.specs.Join.{rounded, trimmed_by, inner_join, turn_of, join_by, join_of}
use Rattle.joins.proofs.Bound.{connector_bound}

-- the two classes whose connector is an arc
abbrev pub is_round : JoinClass → Bool
is_round Class.Coincident = false
is_round Class.Trimmed = false
is_round Class.OuterRound = true
is_round Class.ReversalRound = true
is_round Class.InvalidInnerGap = false
is_round Class.InvalidDegenerateGap = false

-- the two classes whose spans end and start in one point
abbrev pub is_one_point : JoinClass → Bool
is_one_point Class.Coincident = true
is_one_point Class.Trimmed = true
is_one_point Class.OuterRound = false
is_one_point Class.ReversalRound = false
is_one_point Class.InvalidInnerGap = false
is_one_point Class.InvalidDegenerateGap = false

-- ---- the five makes, of a segment that ends at a and one that starts at b
pub data Made (a b shared : Vector2) (offset : Float) : JoinBoundary → Type 0 where
  coincident : Made a b shared offset (straight Cause.Coincident a a)
  cut : (p : Vector2) (s t : Float) → Made a b shared offset (trimmed p s t)
  outer : Made a b shared offset (rounded Cause.OuterTurn a b shared offset)
  reversal : Made a b shared offset (rounded Cause.Reversal a b shared offset)
  gap : (c : JoinCause) → is_gap (class_of c) ≡ true → Made a b shared offset (straight c a b)

met-made : (met : Result Meeting Miss) (a b shared : Vector2) (offset : Float) → Made a b shared offset (trimmed_by met a b)
met-made (Ok m) a b shared offset = cut m.point m.current_param m.next_param
met-made (Err NoMeeting) a b shared offset = gap Cause.NoMeeting refl
met-made (Err CandidatesMissed) a b shared offset = gap Cause.CandidatesMissed refl

inner_made : (current next : RawOffsetSeg) (shared : Vector2) (σ : Settings) → Made (end_of current) (start_of next) shared σ.offset (inner_join current next shared σ.eps)
inner_made (Line a) (Line b) shared σ = met-made (line_line_meeting a b σ.eps) a.end b.start shared σ.offset
inner_made (Line a) (Arc b) shared σ = met-made (line_arc_meeting a b shared σ.eps) a.end b.start shared σ.offset
inner_made (Line a) (Collapsed b) shared σ = gap Cause.CollapsedSide refl
inner_made (Arc a) (Line b) shared σ = met-made (arc_line_meeting a b shared σ.eps) a.end b.start shared σ.offset
inner_made (Arc a) (Arc b) shared σ = met-made (arc_arc_meeting a b shared σ.eps) a.end b.start shared σ.offset
inner_made (Arc a) (Collapsed b) shared σ = gap Cause.CollapsedSide refl
inner_made (Collapsed a) next shared σ = gap Cause.CollapsedSide refl

by_turn : (turn : JoinTurn) (current next : RawOffsetSeg) (shared : Vector2) (σ : Settings) → Made (end_of current) (start_of next) shared σ.offset (join_by turn current next shared σ)
by_turn Coincident current next shared σ = coincident
by_turn ZeroTangent current next shared σ = gap Cause.ZeroTangent refl
by_turn SameDirection current next shared σ = gap Cause.SameDirection refl
by_turn Reversal current next shared σ = reversal
by_turn Outer current next shared σ = outer
by_turn Inner current next shared σ = inner_made current next shared σ

pub made : (current next : RawOffsetSeg) (shared : Vector2) (σ : Settings) → Made (end_of current) (start_of next) shared σ.offset (join_of current next shared σ)
unfolding join_of
made current next shared σ = by_turn (turn_of current next σ) current next shared σ

-- ---- the connector's bulge
pub zero_bound : (offset : Float) → ConnectorBound offset zero
unfolding abs_of lt le of_bits
zero_bound offset = record { small = λ n. tt; not_both_above = λ o h. h; not_both_below = λ o h. h }

made_bound : {a b shared : Vector2} {offset : Float} {j : JoinBoundary} → Made a b shared offset j → ConnectorBound offset j.connector_bulge
unfolding rounded
made_bound coincident = zero_bound _
made_bound (cut p s t) = zero_bound _
made_bound outer = connector_bound _ _ _ _
made_bound reversal = connector_bound _ _ _ _
made_bound (gap c g) = zero_bound _

pub join_bound : (current next : RawOffsetSeg) (shared : Vector2) (σ : Settings) → ConnectorBound σ.offset (join_of current next shared σ).connector_bulge
join_bound current next shared σ = made_bound (made current next shared σ)

made-straight : {a b shared : Vector2} {offset : Float} {j : JoinBoundary} → Made a b shared offset j → is_round (class_of j.cause) ≡ false → j.connector_bulge ≡ zero
unfolding rounded
made-straight coincident n = refl
made-straight (cut p s t) n = refl
made-straight outer n = let z : true ≡ false = n in cc
made-straight reversal n = let z : true ≡ false = n in cc
made-straight (gap c g) n = refl

pub round-only : (current next : RawOffsetSeg) (shared : Vector2) (σ : Settings) →
    is_round (class_of (join_of current next shared σ).cause) ≡ false → (join_of current next shared σ).connector_bulge ≡ zero
round-only current next shared σ = made-straight (made current next shared σ)

-- ---- one point
gap-apart : (c : JoinClass) → is_gap c ≡ true → is_one_point c ≡ true → ⊥
gap-apart Class.Coincident g h = false≢true g
gap-apart Class.Trimmed g h = false≢true g
gap-apart Class.OuterRound g h = false≢true g
gap-apart Class.ReversalRound g h = false≢true g
gap-apart Class.InvalidInnerGap g h = false≢true h
gap-apart Class.InvalidDegenerateGap g h = false≢true h

made_ends : {a b shared : Vector2} {offset : Float} {j : JoinBoundary} → Made a b shared offset j → is_one_point (class_of j.cause) ≡ true → j.current_end ≡ j.next_start
unfolding rounded
made_ends coincident h = refl
made_ends (cut p s t) h = refl
made_ends outer h = let z : false ≡ true = h in cc
made_ends reversal h = let z : false ≡ true = h in cc
made_ends (gap c g) h = absurd (gap-apart (class_of c) g h)

pub equal-ends : (current next : RawOffsetSeg) (shared : Vector2) (σ : Settings) →
    is_one_point (class_of (join_of current next shared σ).cause) ≡ true → (join_of current next shared σ).current_end ≡ (join_of current next shared σ).next_start
equal-ends current next shared σ = made_ends (made current next shared σ)

-- where the two segments are apart, so are the ends of a boundary that has not one point
made-near : {a b shared : Vector2} {offset : Float} {j : JoinBoundary} (ε : Float) → near a b ε ≡ false → Made a b shared offset j
    → near j.current_end j.next_start ε ≡ true → j.current_end ≡ j.next_start
unfolding rounded
made-near ε n coincident h = refl
made-near ε n (cut p s t) h = refl
made-near ε n outer h = absurd (false≢true (sym n ∙ h))
made-near ε n reversal h = absurd (false≢true (sym n ∙ h))
made-near ε n (gap c g) h = absurd (false≢true (sym n ∙ h))

pub near-one-point : (current next : RawOffsetSeg) (shared : Vector2) (σ : Settings) →
    near (join_of current next shared σ).current_end (join_of current next shared σ).next_start σ.eps ≡ true
    → (join_of current next shared σ).current_end ≡ (join_of current next shared σ).next_start
near-one-point current next shared σ = by (near (end_of current) (start_of next) σ.eps) refl
  where
    by : (t : Bool) → near (end_of current) (start_of next) σ.eps ≡ t
        → near (join_of current next shared σ).current_end (join_of current next shared σ).next_start σ.eps ≡ true
        → (join_of current next shared σ).current_end ≡ (join_of current next shared σ).next_start
    by true n h = unfold join_of turn_of when◌give◌else◌ in rw n
    by false n h = made-near σ.eps n (made current next shared σ) h

-- a boundary whose ends are within ε is of one of the two classes that have one point
made-near-class : {a b shared : Vector2} {offset : Float} {j : JoinBoundary} (ε : Float) → near a b ε ≡ false → Made a b shared offset j
    → near j.current_end j.next_start ε ≡ true → is_one_point (class_of j.cause) ≡ true
unfolding rounded
made-near-class ε n coincident h = refl
made-near-class ε n (cut p s t) h = refl
made-near-class ε n outer h = absurd (false≢true (sym n ∙ h))
made-near-class ε n reversal h = absurd (false≢true (sym n ∙ h))
made-near-class ε n (gap c g) h = absurd (false≢true (sym n ∙ h))

pub near-class : (current next : RawOffsetSeg) (shared : Vector2) (σ : Settings) →
    near (join_of current next shared σ).current_end (join_of current next shared σ).next_start σ.eps ≡ true → is_one_point (class_of (join_of current next shared σ).cause) ≡ true
near-class current next shared σ = by (near (end_of current) (start_of next) σ.eps) refl
  where
    by : (t : Bool) → near (end_of current) (start_of next) σ.eps ≡ t
        → near (join_of current next shared σ).current_end (join_of current next shared σ).next_start σ.eps ≡ true
        → is_one_point (class_of (join_of current next shared σ).cause) ≡ true
    by true n h = unfold join_of turn_of when◌give◌else◌ in rw n
    by false n h = made-near-class σ.eps n (made current next shared σ) h

-- 000's join has no tip
gap_unpointed : (c : JoinCause) → is_gap (class_of c) ≡ true → is_pointed c ≡ false
gap_unpointed Cause.Coincident g = refl
gap_unpointed Cause.Met g = refl
gap_unpointed Cause.OuterTurn g = refl
gap_unpointed Cause.OuterPoint g = absurd (false≢true g)
gap_unpointed Cause.Reversal g = refl
gap_unpointed Cause.CollapsedSide g = refl
gap_unpointed Cause.NoMeeting g = refl
gap_unpointed Cause.CandidatesMissed g = refl
gap_unpointed Cause.ZeroTangent g = refl
gap_unpointed Cause.SameDirection g = refl

made_unpointed : {a b shared : Vector2} {offset : Float} {j : JoinBoundary} → Made a b shared offset j → is_pointed j.cause ≡ false
unfolding rounded
made_unpointed coincident = refl
made_unpointed (cut p s t) = refl
made_unpointed outer = refl
made_unpointed reversal = refl
made_unpointed (gap c g) = gap_unpointed c g

pub join_unpointed : (current next : RawOffsetSeg) (shared : Vector2) (σ : Settings) → is_pointed (join_of current next shared σ).cause ≡ false
join_unpointed current next shared σ = made_unpointed (made current next shared σ)

-- ---- a collapsed side: 000's unreachable arm
pub collapsed_never_meets : (current next : RawOffsetSeg) (shared : Vector2) (ε : Float) →
    is_collapsed current or is_collapsed next ≡ true → inner_join current next shared ε ≡ straight Cause.CollapsedSide (end_of current) (start_of next)
unfolding ◌or◌
collapsed_never_meets (Line a) (Line b) shared ε h = let z : false ≡ true = h in cc
collapsed_never_meets (Line a) (Arc b) shared ε h = let z : false ≡ true = h in cc
collapsed_never_meets (Line a) (Collapsed b) shared ε h = refl
collapsed_never_meets (Arc a) (Line b) shared ε h = let z : false ≡ true = h in cc
collapsed_never_meets (Arc a) (Arc b) shared ε h = let z : false ≡ true = h in cc
collapsed_never_meets (Arc a) (Collapsed b) shared ε h = refl
collapsed_never_meets (Collapsed a) next shared ε h = refl
