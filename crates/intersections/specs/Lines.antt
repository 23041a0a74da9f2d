-- Where two lines meet (01 §3, Lines). Definitions only.
use Rattle.std.specs.Prelude.{Bool, Option, None, Some, Float}
use Rattle.std.specs.Float.Ieee.{neg, lt, le}
use Rattle.floats.specs.Binary64.{◌⊕◌, ◌⊘◌, zero, one}
use Rattle.floats.specs.Choice.{when◌give◌else◌, ◌and◌, ◌or◌}
use Rattle.floats.specs.Size.{abs_of}
use Rattle.vectors.specs.Plane.{◌⊟◌, dot, cross}
use Rattle.vectors.specs.declared.Vector2.{Vector2}
use Rattle.intersections.specs.declared.LineLineIntr.{LineLineIntr}
use Rattle.intersections.specs.declared.LineLineIntr.TheVariants.{NoIntersect, TrueIntersect, FalseIntersect, Overlapping}

-- a parameter strictly between −ε and 1 + ε
unfoldable pub in_span : Float → Float → Bool
in_span t ε = lt (neg ε) t and lt t (one ⊕ ε)

-- 01 §3 Lines, for the line p, v from p to p' and the line q, u from q to q'. The parameters a and b are those of
-- q and q' as they were given: q + u may round to another point than q'.
unfoldable pub line_line : Vector2 → Vector2 → Vector2 → Vector2 → Float → LineLineIntr
line_line p p' q q' ε =
    let v = p' ⊟ p in
    let u = q' ⊟ q in
    let w = p ⊟ q in
    let D = cross v u in
    let t = cross u w ⊘ D in
    let s = cross v w ⊘ D in
    let a = dot (q ⊟ p) v ⊘ dot v v in
    let b = dot (q' ⊟ p) v ⊘ dot v v in
    when le ε (abs_of D) give (when in_span t ε and in_span s ε give TrueIntersect t s else FalseIntersect t s) else
    when lt (abs_of (cross v w)) ε and lt (abs_of (cross u w)) ε and ((le a one or le b one) and (le zero a or le zero b)) give Overlapping else NoIntersect

-- both lines prolonged: wherever |D| is not under ε they meet, at the parameter t of the first, whether or not they reach the point
abbrev pub prolonged : LineLineIntr → Option Float
prolonged NoIntersect = None
prolonged (TrueIntersect t s) = Some t
prolonged (FalseIntersect t s) = Some t
prolonged Overlapping = None
