-- Where two circles meet (01 §3, Circles). Definitions only.
use Rattle.std.specs.Prelude.{Float}
use Rattle.std.specs.Float.Ieee.{lt, le}
use Rattle.floats.specs.Binary64.{◌⊕◌, ◌⊖◌, ◌⊗◌, ◌⊘◌, zero, two}
use Rattle.floats.specs.Choice.{when◌give◌else◌, ◌or◌}
use Rattle.floats.specs.Size.{abs_of, within}
use Rattle.floats.specs.Root.{sqrt_of}
use Rattle.vectors.specs.Plane.{◌⊞◌, ◌⊟◌, ◌⊡◌, perp, length_of}
use Rattle.vectors.specs.declared.Vector2.{Vector2}
use Rattle.intersections.specs.declared.CircleCircleIntr.{CircleCircleIntr}
use Rattle.intersections.specs.declared.CircleCircleIntr.TheVariants.{NoIntersect, TangentIntersect, TwoIntersects, Overlapping}

-- 01 §3 Circles, for the radius r1 about c1 and the radius r2 about c2
unfoldable pub circle_circle : Float → Vector2 → Float → Vector2 → Float → CircleCircleIntr
circle_circle r1 c1 r2 c2 ε =
    let d = length_of (c2 ⊟ c1) in
    let a = (r1 ⊗ r1 ⊖ r2 ⊗ r2 ⊕ d ⊗ d) ⊘ (two ⊗ d) in
    let M = c1 ⊞ (c2 ⊟ c1) ⊡ (a ⊘ d) in
    let k = r1 ⊗ r1 ⊖ a ⊗ a in
    let side = perp (c2 ⊟ c1) ⊡ (sqrt_of k ⊘ d) in
    when lt d ε give (when within r1 r2 ε give Overlapping else NoIntersect) else
    when lt (r1 ⊕ r2 ⊕ ε) d or lt (d ⊕ ε) (abs_of (r1 ⊖ r2)) give NoIntersect else
    when within d (r1 ⊕ r2) ε or (within d (abs_of (r1 ⊖ r2)) ε or le k zero) give TangentIntersect M else TwoIntersects (M ⊞ side) (M ⊟ side)
