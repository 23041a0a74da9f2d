-- Points of a line by their parameter, and back (01 §3, Point at t and Parameter of a point). Definitions only.
use Rattle.std.specs.Prelude.{Float}
use Rattle.floats.specs.Binary64.{◌⊖◌, ◌⊘◌}
use Rattle.floats.specs.Choice.{when◌give◌else◌}
use Rattle.floats.specs.Size.{within}
use Rattle.vectors.specs.Plane.{◌⊞◌, ◌⊟◌, ◌⊡◌, length_squared_of}
use Rattle.vectors.specs.declared.Vector2.{Vector2}

-- 01 §3 Point at t: p + (q − p)·t
unfoldable pub point_at : Vector2 → Vector2 → Float → Vector2
point_at p q t = p ⊞ (q ⊟ p) ⊡ t

-- 01 §3 Parameter of a point c: by y where p.x and q.x are within ε, and by x elsewhere
unfoldable pub parameter_of : Vector2 → Vector2 → Vector2 → Float → Float
parameter_of p q c ε =
    when within p.x q.x ε give (c.y ⊖ p.y) ⊘ (q.y ⊖ p.y) else (c.x ⊖ p.x) ⊘ (q.x ⊖ p.x)

-- 000's dist_squared: the squared length of a − b
unfoldable pub distance_squared : Vector2 → Vector2 → Float
distance_squared a b = length_squared_of (a ⊟ b)
