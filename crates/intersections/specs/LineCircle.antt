-- Where a line meets a circle (01 §3, Line and circle). Definitions only.
use Rattle.std.specs.Prelude.{Float}
use Rattle.std.specs.Float.Ieee.{neg, lt, le}
use Rattle.floats.specs.Binary64.{◌⊕◌, ◌⊖◌, ◌⊗◌, ◌⊘◌}
use Rattle.floats.specs.Choice.{when◌give◌else◌}
use Rattle.floats.specs.Size.{abs_of}
use Rattle.floats.specs.Root.{sqrt_of}
use Rattle.vectors.specs.Plane.{◌⊟◌, dot, cross}
use Rattle.vectors.specs.declared.Vector2.{Vector2}
use Rattle.intersections.specs.declared.LineCircleIntr.{LineCircleIntr}
use Rattle.intersections.specs.declared.LineCircleIntr.TheVariants.{NoIntersect, TangentIntersect, TwoIntersects}

-- 01 §3 Line and circle, for the line p, v from p to p' and the circle of radius r about the centre. Where r + ε rounds up,
-- h can exceed r by more than ε and yet not exceed r + ε: then the root is of a number below zero, and t0 and t1 are NaN.
unfoldable pub line_circle : Vector2 → Vector2 → Float → Vector2 → Float → LineCircleIntr
line_circle p p' r centre ε =
    let v = p' ⊟ p in
    let w = p ⊟ centre in
    let l = sqrt_of (dot v v) in
    let h = abs_of (cross v w) ⊘ l in
    let t = neg (dot w v) ⊘ dot v v in
    let s = sqrt_of (r ⊗ r ⊖ h ⊗ h) ⊘ l in
    when lt (r ⊕ ε) h give NoIntersect else
    when le (abs_of (h ⊖ r)) ε give TangentIntersect t else TwoIntersects (t ⊖ s) (t ⊕ s)
