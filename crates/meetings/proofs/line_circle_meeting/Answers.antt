-- `line_circle_meeting` meets its contract. Assumes nothing.
use mathlib.Core.Path.{◌≡◌, refl}
use lib.Ieee.{Float}
use Rattle.vectors.specs.declared.Vector2.{Vector2}
use Rattle.intersections.specs.LineCircle.{line_circle}
use Rattle.meetings.specs.Meetings.{line_arc_meeting}
use Rattle.meetings.specs.Rules.{ruled}
use Rattle.meetings.proofs.Candidates.{line_arc_at-is}
use Rattle.meetings.proofs.line_circle_meeting.Goals as goal

-- the numbers are those of the circle
by-numbers :
    {r r' x y : Float} {center : Vector2} (s e : Vector2) (ε : Float) →
    (r ≡ r') × (x ≡ center.x) × (y ≡ center.y) → line_circle s e r (record { x = x; y = y }) ε ≡ line_circle s e r' center ε
by-numbers s e ε same = rw (same.0, same.1, same.2) refl

pub returns-in-NoIntersect : goal.returns-in-NoIntersect
unfolding line_arc_meeting ruled
returns-in-NoIntersect c = rw (← by-numbers _ _ _ c.requires, ← c.line_circle_intr-intr.ensures, c.in-NoIntersect.is) (rw c.no_meeting.ensures (record { met = refl; seen = refl }))

pub returns-in-TangentIntersect : goal.returns-in-TangentIntersect
unfolding line_arc_meeting
returns-in-TangentIntersect c =
    rw (← by-numbers _ _ _ c.requires, ← c.line_circle_intr-intr.ensures, c.in-TangentIntersect.is, line_arc_at-is, ← c.point_from_parametric-point.ensures)
    c.line_arc_candidate.ensures

pub returns-in-TwoIntersects : goal.returns-in-TwoIntersects
unfolding line_arc_meeting
returns-in-TwoIntersects c =
    let intr = c.line_circle_intr-intr in
    rw (
      ← by-numbers _ _ _ c.requires,
      ← intr.ensures,
      c.in-TwoIntersects.is,
      line_arc_at-is,
      line_arc_at-is,
      ← c.point_from_parametric-intr1.ensures,
      ← c.point_from_parametric-intr2.ensures,
    )
    c.line_arc_nearer.ensures
