-- The join of two neighbouring offset segments: its turn in the order of 01 §2, and the boundary that each makes (000's join_without_intersection and analyze_join).
-- Definitions only.
use Rattle.std.specs.Prelude.{Result, Ok, Err, Float}
use Rattle.std.specs.Float.Ieee.{lt, le}
use Rattle.floats.specs.Binary64.{◌⊗◌, zero, fuzzy}
use Rattle.floats.specs.Choice.{when◌give◌else◌, ◌or◌}
use Rattle.vectors.specs.Plane.{dot, cross, length_squared_of, near}
use Rattle.vectors.specs.declared.Vector2.{Vector2}
use Rattle.segments.specs.declared.Settings.{Settings}
use Rattle.segments.specs.declared.RawOffsetSeg.{RawOffsetSeg}
use Rattle.segments.specs.declared.RawOffsetSeg.TheVariants.{Line, Arc, Collapsed}
use Rattle.segments.specs.Segment.{start_of, end_of, start_tangent_of, end_tangent_of}
use Rattle.meetings.specs.declared.Meeting.{Meeting}
use Rattle.meetings.specs.declared.Miss.{Miss}
use Rattle.meetings.specs.declared.Miss.TheVariants.{NoMeeting, CandidatesMissed}
use Rattle.meetings.specs.Meetings.{line_line_meeting, line_arc_meeting, arc_line_meeting, arc_arc_meeting}
use Rattle.joins.specs.declared.JoinTurn.{JoinTurn}
use Rattle.joins.specs.declared.JoinTurn.TheVariants.{Coincident, ZeroTangent, SameDirection, Reversal, Outer, Inner}
use Rattle.joins.specs.declared.JoinCause.{JoinCause}
use Rattle.joins.specs.declared.JoinCause.TheVariants as Cause
use Rattle.joins.specs.declared.JoinBoundary.{JoinBoundary}
use Rattle.joins.specs.Boundary.{connected, straight, trimmed}
use Rattle.joins.specs.Connector.{connector_bulge_of}

-- by the tangents into and out of the shared vertex: a zero one; turn² ≤ 1e-8·1e-8·(both squared lengths), told apart by alignment; offset·turn > 0
unfoldable pub tangent_turn : Vector2 → Vector2 → Settings → JoinTurn
tangent_turn incoming outgoing σ =
    let turn = cross incoming outgoing in
    let alignment = dot incoming outgoing in
    when le (length_squared_of incoming) (σ.eps ⊗ σ.eps) or le (length_squared_of outgoing) (σ.eps ⊗ σ.eps) give ZeroTangent else
    when le (turn ⊗ turn) (fuzzy ⊗ fuzzy ⊗ length_squared_of incoming ⊗ length_squared_of outgoing) give (when lt alignment zero give Reversal else SameDirection) else
    when lt zero (σ.offset ⊗ turn) give Inner else Outer

-- raw ends within ε come first
unfoldable pub turn_of : RawOffsetSeg → RawOffsetSeg → Settings → JoinTurn
turn_of current next σ = when near (end_of current) (start_of next) σ.eps give Coincident else tangent_turn (end_tangent_of current) (start_tangent_of next) σ

-- 000's arc_connection_boundary: a round connector about the shared source vertex
unfoldable pub rounded : JoinCause → Vector2 → Vector2 → Vector2 → Float → JoinBoundary
rounded cause a b shared offset = connected cause a b (connector_bulge_of offset a b shared)

-- a meeting trims both spans; without one the gap is bridged straight, and is invalid
abbrev pub trimmed_by : Result Meeting Miss → Vector2 → Vector2 → JoinBoundary
trimmed_by (Ok m) a b = trimmed m.point m.current_param m.next_param
trimmed_by (Err NoMeeting) a b = straight Cause.NoMeeting a b
trimmed_by (Err CandidatesMissed) a b = straight Cause.CandidatesMissed a b

-- an inner join: a collapsed side has no line or circle to meet, so the gap stays
abbrev pub inner_join : RawOffsetSeg → RawOffsetSeg → Vector2 → Float → JoinBoundary
inner_join (Line a) (Line b) shared ε = trimmed_by (line_line_meeting a b ε) a.end b.start
inner_join (Line a) (Arc b) shared ε = trimmed_by (line_arc_meeting a b shared ε) a.end b.start
inner_join (Line a) (Collapsed b) shared ε = straight Cause.CollapsedSide a.end b.start
inner_join (Arc a) (Line b) shared ε = trimmed_by (arc_line_meeting a b shared ε) a.end b.start
inner_join (Arc a) (Arc b) shared ε = trimmed_by (arc_arc_meeting a b shared ε) a.end b.start
inner_join (Arc a) (Collapsed b) shared ε = straight Cause.CollapsedSide a.end b.start
inner_join (Collapsed a) next shared ε = straight Cause.CollapsedSide a.end (start_of next)

-- the boundary that a turn makes. A coincident one starts the next span at the current segment's end.
abbrev pub join_by : JoinTurn → RawOffsetSeg → RawOffsetSeg → Vector2 → Settings → JoinBoundary
join_by Coincident current next shared σ = straight Cause.Coincident (end_of current) (end_of current)
join_by ZeroTangent current next shared σ = straight Cause.ZeroTangent (end_of current) (start_of next)
join_by SameDirection current next shared σ = straight Cause.SameDirection (end_of current) (start_of next)
join_by Reversal current next shared σ = rounded Cause.Reversal (end_of current) (start_of next) shared σ.offset
join_by Outer current next shared σ = rounded Cause.OuterTurn (end_of current) (start_of next) shared σ.offset
join_by Inner current next shared σ = inner_join current next shared σ.eps

unfoldable pub join_of : RawOffsetSeg → RawOffsetSeg → Vector2 → Settings → JoinBoundary
join_of current next shared σ = join_by (turn_of current next σ) current next shared σ
