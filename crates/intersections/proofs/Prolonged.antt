-- Where 01's answer for two lines has parameters: exactly where |D| is not under ε (`prolonged-is`). Assumes nothing.
use mathlib.Core.Path.{◌≡◌, refl}
use mathlib.Core.Bool.{Bool, true, false}
use lib.Ieee.{Float, le}
use Rattle.floats.specs.Binary64.{◌⊘◌}
use Rattle.floats.specs.Choice.{when◌give◌else◌}
use Rattle.floats.specs.Size.{abs_of}
use Rattle.vectors.specs.Plane.{◌⊟◌, cross}
use Rattle.vectors.specs.declared.Vector2.{Vector2}
use Rattle.intersections.specs.declared.LineLineIntr.TheVariants.{NoIntersect, TrueIntersect, FalseIntersect, Overlapping}
use Rattle.std.specs.Prelude.{Some, None}
use Rattle.intersections.specs.Lines.{line_line, prolonged}

choice : (a b c : Bool) (t s : Float)
    → prolonged (when a give (when b give TrueIntersect t s else FalseIntersect t s) else when c give Overlapping else NoIntersect) ≡ when a give Some t else None
unfolding when◌give◌else◌
choice true true c t s = refl
choice true false c t s = refl
choice false b true t s = refl
choice false b false t s = refl

pub prolonged-is : (p p' q q' : Vector2) (ε : Float)
    → prolonged (line_line p p' q q' ε)
    ≡ when le ε (abs_of (cross (p' ⊟ p) (q' ⊟ q))) give Some (cross (q' ⊟ q) (p ⊟ q) ⊘ cross (p' ⊟ p) (q' ⊟ q)) else None
unfolding line_line
prolonged-is p p' q q' ε = choice _ _ _ _ _
