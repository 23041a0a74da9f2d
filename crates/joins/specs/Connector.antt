-- The round connector's bulge, after 000's arc_connection_boundary. Expressions are worked left to right as they stand. Definitions only.
use Rattle.std.specs.Prelude.{Float}
use Rattle.std.specs.Float.Ieee.{neg, lt, le}
use Rattle.floats.specs.Choice.{when◌give◌else◌}
use Rattle.floats.specs.Binary64.{◌⊕◌, ◌⊖◌, ◌⊗◌, ◌⊘◌, zero, one, two}
use Rattle.floats.specs.Size.{abs_of}
use Rattle.floats.specs.Root.{sqrt_of}
use Rattle.vectors.specs.declared.Vector2.{Vector2}
use Rattle.vectors.specs.Plane.{◌⊟◌, dot, cross, normalized}

-- the sweep's cosine: below −1 it is −1, else above 1 it is 1
unfoldable pub clamp_cos : Float → Float
clamp_cos cos = when lt cos (neg one) give neg one else when lt one cos give one else cos

-- the sweep's sine, which is a size: above 1 it is 1
unfoldable pub clamp_sin : Float → Float
clamp_sin sin = when lt one sin give one else sin

-- tan(sweep / 4), by the one form up to a quarter circle and by the other beyond
unfoldable pub bulge_size : (cos sin : Float) → Float
bulge_size cos sin = when le zero cos give sin ⊘ (one ⊕ cos ⊕ sqrt_of (two ⊗ (one ⊕ cos))) else (one ⊖ cos) ⊘ (sin ⊕ sqrt_of (two ⊗ (one ⊖ cos)))

-- from the directions in which the shared source vertex sees the two ends, and clockwise, so negative, for an offset from zero up
unfoldable pub connector_bulge_of : Float → Vector2 → Vector2 → Vector2 → Float
connector_bulge_of offset currentEnd nextStart shared =
    let currentDirection = normalized (currentEnd ⊟ shared) in
    let nextDirection = normalized (nextStart ⊟ shared) in
    let size = bulge_size (clamp_cos (dot currentDirection nextDirection)) (clamp_sin (abs_of (cross currentDirection nextDirection))) in
    when le zero offset give neg size else size
