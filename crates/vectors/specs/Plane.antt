-- Points and vectors of the plane (01 §3, first line). Expressions are worked left to right as they stand. Definitions only.
use Rattle.std.specs.Prelude.{Bool, Float}
use Rattle.std.specs.Float.Ieee.{neg}
use Rattle.floats.specs.Binary64.{◌⊕◌, ◌⊖◌, ◌⊗◌, ◌⊘◌}
use Rattle.floats.specs.Choice.{◌and◌}
use Rattle.floats.specs.Size.{within}
use Rattle.floats.specs.Root.{sqrt_of}
use Rattle.vectors.specs.declared.Vector2.{Vector2}

infixl 6 ◌⊞◌ ◌⊟◌
infixl 7 ◌⊡◌
-- sum and difference, part by part
unfoldable pub ◌⊞◌ : Vector2 → Vector2 → Vector2
a ⊞ b = record { x = a.x ⊕ b.x; y = a.y ⊕ b.y }

unfoldable pub ◌⊟◌ : Vector2 → Vector2 → Vector2
a ⊟ b = record { x = a.x ⊖ b.x; y = a.y ⊖ b.y }

-- each part times a number
unfoldable pub ◌⊡◌ : Vector2 → Float → Vector2
a ⊡ k = record { x = a.x ⊗ k; y = a.y ⊗ k }

unfoldable pub negated : Vector2 → Vector2
negated a = record { x = neg a.x; y = neg a.y }

-- a.x·b.x + a.y·b.y
unfoldable pub dot : Vector2 → Vector2 → Float
dot a b = a.x ⊗ b.x ⊕ a.y ⊗ b.y

-- 01's × on vectors, 000's perp_dot: a.x·b.y − a.y·b.x
unfoldable pub cross : Vector2 → Vector2 → Float
cross a b = a.x ⊗ b.y ⊖ a.y ⊗ b.x

-- (−y, x)
unfoldable pub perp : Vector2 → Vector2
perp a = record { x = neg a.y; y = a.x }

-- x·x + y·y
unfoldable pub length_squared_of : Vector2 → Float
length_squared_of a = a.x ⊗ a.x ⊕ a.y ⊗ a.y

unfoldable pub length_of : Vector2 → Float
length_of a = sqrt_of (length_squared_of a)

-- each part divided by the length
unfoldable pub normalized : Vector2 → Vector2
normalized a = record { x = a.x ⊘ length_of a; y = a.y ⊘ length_of a }

-- perp, then normalize
unfoldable pub unit_perp : Vector2 → Vector2
unit_perp a = normalized (perp a)

-- within e in x and in y
unfoldable pub near : Vector2 → Vector2 → Float → Bool
near a b e = within a.x b.x e and within a.y b.y e
