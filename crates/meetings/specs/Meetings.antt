-- Where two offset segments meet, with the parameters on both (000's line_line_join, line_arc_intersection and arc_arc_join up to the boundary that they make).
-- Definitions only.
use Rattle.std.specs.Prelude.{Option, Some, None, Result, Ok, Err, Float}
use Rattle.std.specs.Float.Ieee.{lt}
use Rattle.floats.specs.Binary64.{zero, one}
use Rattle.floats.specs.Choice.{when◌give◌else◌}
use Rattle.vectors.specs.Plane.{◌⊟◌, length_squared_of, near}
use Rattle.vectors.specs.declared.Vector2.{Vector2}
use Rattle.intersections.specs.Points.{point_at, parameter_of, distance_squared}
use Rattle.intersections.specs.Lines.{line_line}
use Rattle.intersections.specs.LineCircle.{line_circle}
use Rattle.intersections.specs.Circles.{circle_circle}
use Rattle.intersections.specs.declared.LineLineIntr.{LineLineIntr}
use Rattle.intersections.specs.declared.LineLineIntr.TheVariants as LineLine
use Rattle.intersections.specs.declared.LineCircleIntr.{LineCircleIntr}
use Rattle.intersections.specs.declared.LineCircleIntr.TheVariants as LineCircle
use Rattle.intersections.specs.declared.CircleCircleIntr.{CircleCircleIntr}
use Rattle.intersections.specs.declared.CircleCircleIntr.TheVariants as CircleCircle
use Rattle.segments.specs.declared.RawOffsetLine.{RawOffsetLine}
use Rattle.segments.specs.declared.RawOffsetArc.{RawOffsetArc}
use Rattle.meetings.specs.declared.Meeting.{Meeting}
use Rattle.meetings.specs.declared.Miss.{Miss}
use Rattle.meetings.specs.declared.Miss.TheVariants.{NoMeeting, CandidatesMissed}
use Rattle.meetings.specs.Params.{usable_line_param, usable_arc_param, arc_param, squared_distances_equal}

-- a meeting at a point, with the parameters on the current and on the next segment. Which rules granted them is told by `ruled` (Rules.antt).
abbrev pub met_at : Vector2 → Float → Float → Result Meeting Miss
met_at p s t = Ok (record { point = p; current_param = s; next_param = t; current_rule = None; next_rule = None })

-- ---- two lines

-- a parameter just past an end is cut to it
unfoldable pub clamp_param : Float → Float
clamp_param t = when lt t zero give zero else when lt one t give one else t

-- where a parameter was cut, the end itself is the point
unfoldable pub meeting_point : RawOffsetLine → RawOffsetLine → Float → Float → Vector2
meeting_point current next s t =
    when lt s zero give current.start else
    when lt one s give current.end else
    when lt t zero give next.start else
    when lt one t give next.end else point_at current.start current.end s

-- lines that overlap meet at the current one's end, where that is usable on the next
abbrev pub overlap_meeting : Vector2 → Option Float → Result Meeting Miss
overlap_meeting end (Some t) = met_at end one t
overlap_meeting end None = Err CandidatesMissed

abbrev pub line_line_by : LineLineIntr → RawOffsetLine → RawOffsetLine → Float → Result Meeting Miss
line_line_by LineLine.NoIntersect current next ε = Err NoMeeting
line_line_by (LineLine.FalseIntersect s t) current next ε = Err CandidatesMissed
line_line_by (LineLine.TrueIntersect s t) current next ε = met_at (meeting_point current next s t) (clamp_param s) (clamp_param t)
line_line_by LineLine.Overlapping current next ε =
    overlap_meeting current.end
    (usable_line_param (parameter_of next.start next.end current.end ε) (length_squared_of (next.end ⊟ next.start)) ε)

unfoldable pub line_line_meeting : RawOffsetLine → RawOffsetLine → Float → Result Meeting Miss
line_line_meeting current next ε = line_line_by (line_line current.start current.end next.start next.end ε) current next ε

-- ---- candidates

-- both parameters usable, or the candidate missed a span
abbrev pub met_where : Vector2 → Option Float → Option Float → Result Meeting Miss
met_where p (Some s) (Some t) = met_at p s t
met_where p (Some s) None = Err CandidatesMissed
met_where p None t = Err CandidatesMissed

-- the second is tried where the first does not meet
abbrev pub or_else : Result Meeting Miss → Result Meeting Miss → Result Meeting Miss
or_else (Ok m) b = Ok m
or_else (Err e) b = b

-- Of two candidates the one nearer to the shared source vertex is tried alone, and both, the first first, only where their squared distances d and e to it
-- count as equal.
unfoldable pub nearer_of : Float → Float → Float → Result Meeting Miss → Result Meeting Miss → Result Meeting Miss
nearer_of d e ε a b = when squared_distances_equal d e ε give or_else a b else when lt d e give a else b

-- ---- a line and an arc, the line as the current one

-- past an end of the line that end is the point; else an end of the arc that is near stands in
unfoldable pub line_arc_point : RawOffsetLine → RawOffsetArc → Float → Vector2 → Float → Vector2
line_arc_point line arc t point ε =
    when lt t zero give line.start else
    when lt one t give line.end else
    when near point arc.start ε give arc.start else when near point arc.end ε give arc.end else point

-- the candidate at parameter t of the line
unfoldable pub line_arc_candidate : RawOffsetLine → RawOffsetArc → Float → Float → Result Meeting Miss
line_arc_candidate line arc t ε =
    let point = line_arc_point line arc t (point_at line.start line.end t) ε in
    met_where point (usable_line_param t (length_squared_of (line.end ⊟ line.start)) ε) (arc_param (usable_arc_param arc point ε))

abbrev pub line_arc_by : LineCircleIntr → RawOffsetLine → RawOffsetArc → Vector2 → Float → Result Meeting Miss
line_arc_by LineCircle.NoIntersect line arc shared ε = Err NoMeeting
line_arc_by (LineCircle.TangentIntersect t) line arc shared ε = line_arc_candidate line arc t ε
line_arc_by (LineCircle.TwoIntersects t t') line arc shared ε =
    nearer_of (distance_squared (point_at line.start line.end t) shared) (distance_squared (point_at line.start line.end t') shared) ε
    (line_arc_candidate line arc t ε)
    (line_arc_candidate line arc t' ε)

unfoldable pub line_arc_meeting : RawOffsetLine → RawOffsetArc → Vector2 → Float → Result Meeting Miss
line_arc_meeting line arc shared ε = line_arc_by (line_circle line.start line.end arc.radius arc.center ε) line arc shared ε

-- the arc as the current one
abbrev pub exchanged : Result Meeting Miss → Result Meeting Miss
exchanged (Ok m) = Ok (record { point = m.point; current_param = m.next_param; next_param = m.current_param; current_rule = m.next_rule; next_rule = m.current_rule })
exchanged (Err e) = Err e

unfoldable pub arc_line_meeting : RawOffsetArc → RawOffsetLine → Vector2 → Float → Result Meeting Miss
arc_line_meeting arc line shared ε = exchanged (line_arc_meeting line arc shared ε)

-- ---- two arcs

-- an end that is near stands in for the point
unfoldable pub arc_arc_point : RawOffsetArc → RawOffsetArc → Vector2 → Float → Vector2
arc_arc_point current next point ε =
    when near point current.start ε give current.start else
    when near point current.end ε give current.end else
    when near point next.start ε give next.start else
    when near point next.end ε give next.end else point

unfoldable pub arc_arc_candidate : RawOffsetArc → RawOffsetArc → Vector2 → Float → Result Meeting Miss
arc_arc_candidate current next point ε =
    let p = arc_arc_point current next point ε in
    met_where p (arc_param (usable_arc_param current p ε)) (arc_param (usable_arc_param next p ε))

-- on one circle the next arc's start is tried, then the current one's end
abbrev pub arc_arc_by : CircleCircleIntr → RawOffsetArc → RawOffsetArc → Vector2 → Float → Result Meeting Miss
arc_arc_by CircleCircle.NoIntersect current next shared ε = Err NoMeeting
arc_arc_by (CircleCircle.TangentIntersect p) current next shared ε = arc_arc_candidate current next p ε
arc_arc_by (CircleCircle.TwoIntersects p q) current next shared ε =
    nearer_of (distance_squared p shared) (distance_squared q shared) ε (arc_arc_candidate current next p ε) (arc_arc_candidate current next q ε)
arc_arc_by CircleCircle.Overlapping current next shared ε = or_else (arc_arc_candidate current next next.start ε) (arc_arc_candidate current next current.end ε)

unfoldable pub arc_arc_meeting : RawOffsetArc → RawOffsetArc → Vector2 → Float → Result Meeting Miss
arc_arc_meeting current next shared ε = arc_arc_by (circle_circle current.radius current.center next.radius next.center ε) current next shared ε
