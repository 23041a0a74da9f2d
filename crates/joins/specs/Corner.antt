-- Outer corners in the pointed mode (02's 2026-13): an outer round join between two lines gets a tip, the point where the lines, prolonged, meet, if that is near enough; every
-- other join stays as it is, and in the round mode every join does. Definitions only.
use Rattle.std.specs.Prelude.{◌≡◌, Bool, true, false, None, Option, Some, Float}
use Rattle.std.specs.Float.Ieee.{le}
use Rattle.floats.specs.Binary64.{◌⊗◌, zero}
use Rattle.floats.specs.Choice.{when◌give◌else◌}
use Rattle.vectors.specs.declared.Vector2.{Vector2}
use Rattle.intersections.specs.Lines.{line_line, prolonged}
use Rattle.intersections.specs.Points.{point_at, distance_squared}
use Rattle.segments.specs.declared.Corners.{Corners}
use Rattle.segments.specs.declared.Corners.TheVariants.{Round, Pointed}
use Rattle.segments.specs.declared.Settings.{Settings}
use Rattle.segments.specs.declared.RawOffsetLine.{RawOffsetLine}
use Rattle.segments.specs.declared.RawOffsetSeg.{RawOffsetSeg}
use Rattle.segments.specs.declared.RawOffsetSeg.TheVariants.{Line, Arc, Collapsed}
use Rattle.joins.specs.declared.JoinCause.{JoinCause}
use Rattle.joins.specs.declared.JoinCause.TheVariants.{Coincident, Met, OuterTurn, OuterPoint, Reversal, CollapsedSide, NoMeeting, CandidatesMissed, ZeroTangent, SameDirection}
use Rattle.joins.specs.declared.JoinBoundary.{JoinBoundary}
use Rattle.joins.specs.Join.{join_of}

abbrev pub is_outer_turn : JoinCause → Bool
is_outer_turn Coincident = false
is_outer_turn Met = false
is_outer_turn OuterTurn = true
is_outer_turn OuterPoint = false
is_outer_turn Reversal = false
is_outer_turn CollapsedSide = false
is_outer_turn NoMeeting = false
is_outer_turn CandidatesMissed = false
is_outer_turn ZeroTangent = false
is_outer_turn SameDirection = false

abbrev pub is_pointed : JoinCause → Bool
is_pointed Coincident = false
is_pointed Met = false
is_pointed OuterTurn = false
is_pointed OuterPoint = true
is_pointed Reversal = false
is_pointed CollapsedSide = false
is_pointed NoMeeting = false
is_pointed CandidatesMissed = false
is_pointed ZeroTangent = false
is_pointed SameDirection = false

-- near enough: the squared distance from the shared vertex is at most (ratio·offset)·(ratio·offset)
unfoldable pub within_ratio : Float → Float → Vector2 → Vector2 → Bool
within_ratio ratio offset shared p = le (distance_squared p shared) ((ratio ⊗ offset) ⊗ (ratio ⊗ offset))

-- the boundary j by the tip p, with straight connectors
abbrev pub pointed_at : Vector2 → JoinBoundary → JoinBoundary
pointed_at p j = record {
  cause = OuterPoint;
  current_rule = None;
  next_rule = None;
  current_end = j.current_end;
  current_param = j.current_param;
  next_start = j.next_start;
  next_param = j.next_param;
  connector_bulge = zero;
  tip = p;
}

unfoldable pub pointed_if : Float → Float → Vector2 → Vector2 → JoinBoundary → JoinBoundary
pointed_if ratio offset shared p j = when within_ratio ratio offset shared p give pointed_at p j else j

-- the tip is the point at 01's t on the first line; where |D| is under ε there is none
abbrev pub corner_by : Option Float → RawOffsetLine → Vector2 → Float → Settings → JoinBoundary → JoinBoundary
corner_by None a shared ratio σ j = j
corner_by (Some t) a shared ratio σ j = pointed_if ratio σ.offset shared (point_at a.start a.end t) j

-- of two lines alone; a collapsed arc is none
abbrev pub corner_of : RawOffsetSeg → RawOffsetSeg → Vector2 → Float → Settings → JoinBoundary → JoinBoundary
corner_of (Line a) (Line b) shared ratio σ j = corner_by (prolonged (line_line a.start a.end b.start b.end σ.eps)) a shared ratio σ j
corner_of (Line a) (Arc b) shared ratio σ j = j
corner_of (Line a) (Collapsed b) shared ratio σ j = j
corner_of (Arc a) next shared ratio σ j = j
corner_of (Collapsed a) next shared ratio σ j = j

abbrev pub cornered_by : Corners → RawOffsetSeg → RawOffsetSeg → Vector2 → Settings → JoinBoundary → JoinBoundary
cornered_by Round current next shared σ j = j
cornered_by (Pointed ratio) current next shared σ j = when is_outer_turn j.cause give corner_of current next shared ratio σ j else j

-- a boundary in the mode that is asked for
unfoldable pub cornered : RawOffsetSeg → RawOffsetSeg → Vector2 → Settings → JoinBoundary → JoinBoundary
cornered current next shared σ j = cornered_by σ.corners current next shared σ j

-- the join in that mode
unfoldable pub corner_join : RawOffsetSeg → RawOffsetSeg → Vector2 → Settings → JoinBoundary
corner_join current next shared σ = cornered current next shared σ (join_of current next shared σ)

-- ---- the corner of the segments g and h at the vertex that they share has a tip, in 02's words: the mode is pointed, both are lines, they meet when prolonged, and near enough
pub record Sharp (g h : RawOffsetSeg) (shared : Vector2) (σ : Settings) : Type 0 where
  pub ratio : Float
  pub mode : σ.corners ≡ Pointed ratio
  pub first : RawOffsetLine
  pub second : RawOffsetLine
  pub lines : (g ≡ Line first) × (h ≡ Line second)
  pub t : Float
  pub meet : prolonged (line_line first.start first.end second.start second.end σ.eps) ≡ Some t
  pub near : within_ratio ratio σ.offset shared (point_at first.start first.end t) ≡ true

abbrev pub tip_of : {g h : RawOffsetSeg} {shared : Vector2} {σ : Settings} → Sharp g h shared σ → Vector2
tip_of s = point_at s.first.start s.first.end s.t
