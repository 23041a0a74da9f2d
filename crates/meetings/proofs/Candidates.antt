-- The step that takes the point is the candidate, where the point is the line's at its parameter. Assumes nothing.
use mathlib.Core.Path.{◌≡◌, refl}
use lib.Ieee.{Float}
use Rattle.intersections.specs.Points.{point_at}
use Rattle.segments.specs.declared.RawOffsetLine.{RawOffsetLine}
use Rattle.segments.specs.declared.RawOffsetArc.{RawOffsetArc}
use Rattle.meetings.specs.Meetings.{line_arc_candidate}
use Rattle.meetings.specs.InnerSteps.{line_arc_at}

pub line_arc_at-is :
    (line : RawOffsetLine) (arc : RawOffsetArc) (t ε : Float) → line_arc_candidate line arc t ε ≡ line_arc_at line arc t (point_at line.start line.end t) ε
unfolding line_arc_candidate line_arc_at
line_arc_at-is line arc t ε = refl
