-- An intersection as C gets it, for timing and comparing alone; no rule rests on these: its kind, in the order of their declaration, and four numbers, zeros after the last.
-- A join so too, with its rules: its kind has three digits, the cause, the current side's rule and the next side's. Definitions only.
use Rattle.std.specs.Prelude.{ℕ, ◌+◌, ◌*◌, List, [], ◌∷◌, Float}
use Rattle.floats.specs.Binary64.{zero}
use Rattle.segments.specs.declared.Settings.{Settings}
use Rattle.segments.specs.Vertex.{pos_of}
use Rattle.segments.specs.Segment.{offset_seg}
use Rattle.source.specs.Source.{vertices_of}
use Rattle.source.specs.InnerSteps.{vertex_of}
use Rattle.meetings.specs.Rules.{rule_number}
use Rattle.joins.specs.declared.JoinCause.{JoinCause}
use Rattle.joins.specs.declared.JoinCause.TheVariants as Cause
use Rattle.joins.specs.declared.JoinBoundary.{JoinBoundary}
use Rattle.joins.specs.Rules.{ruled_join}
use Rattle.intersections.specs.declared.LineLineIntr.{LineLineIntr}
use Rattle.intersections.specs.declared.LineLineIntr.TheVariants as LineLine
use Rattle.intersections.specs.declared.LineCircleIntr.{LineCircleIntr}
use Rattle.intersections.specs.declared.LineCircleIntr.TheVariants as LineCircle
use Rattle.intersections.specs.declared.CircleCircleIntr.{CircleCircleIntr}
use Rattle.intersections.specs.declared.CircleCircleIntr.TheVariants as CircleCircle

pub record Listed : Type 0 where
  pub kind : ℕ
  pub numbers : List Float

abbrev pub listed : ℕ → List Float → Listed
listed k four = record { kind = k; numbers = four }

abbrev pub four : Float → Float → Float → Float → List Float
four a b c d = a ∷ b ∷ c ∷ d ∷ []

abbrev pub line_line_listed : LineLineIntr → Listed
line_line_listed LineLine.NoIntersect = listed 0 (four zero zero zero zero)
line_line_listed (LineLine.TrueIntersect t s) = listed 1 (four t s zero zero)
line_line_listed (LineLine.FalseIntersect t s) = listed 2 (four t s zero zero)
line_line_listed LineLine.Overlapping = listed 3 (four zero zero zero zero)

abbrev pub line_circle_listed : LineCircleIntr → Listed
line_circle_listed LineCircle.NoIntersect = listed 0 (four zero zero zero zero)
line_circle_listed (LineCircle.TangentIntersect t) = listed 1 (four t zero zero zero)
line_circle_listed (LineCircle.TwoIntersects t s) = listed 2 (four t s zero zero)

abbrev pub circle_circle_listed : CircleCircleIntr → Listed
circle_circle_listed CircleCircle.NoIntersect = listed 0 (four zero zero zero zero)
circle_circle_listed (CircleCircle.TangentIntersect p) = listed 1 (four p.x p.y zero zero)
circle_circle_listed (CircleCircle.TwoIntersects p q) = listed 2 (four p.x p.y q.x q.y)
circle_circle_listed CircleCircle.Overlapping = listed 3 (four zero zero zero zero)

abbrev pub cause_number : JoinCause → ℕ
cause_number Cause.Coincident = 0
cause_number Cause.Met = 1
cause_number Cause.OuterTurn = 2
cause_number Cause.Reversal = 3
cause_number Cause.CollapsedSide = 4
cause_number Cause.NoMeeting = 5
cause_number Cause.CandidatesMissed = 6
cause_number Cause.ZeroTangent = 7
cause_number Cause.SameDirection = 8
cause_number Cause.OuterPoint = 9

abbrev pub join_listed : JoinBoundary → Listed
join_listed j =
    listed (100 * cause_number j.cause + 10 * rule_number j.current_rule + rule_number j.next_rule)
    (j.current_end.x ∷ j.current_end.y ∷ j.current_param ∷ j.next_start.x ∷ j.next_start.y ∷ j.next_param ∷ j.connector_bulge ∷ [])

-- the join at the third of four vertices
abbrev pub join_of_four : List Float → Settings → JoinBoundary
join_of_four s σ =
    let vs = vertices_of s in
    let c = vertex_of vs 2 in
    ruled_join (offset_seg (vertex_of vs 1) c σ.offset) (offset_seg c (vertex_of vs 3) σ.offset) (pos_of c) σ
