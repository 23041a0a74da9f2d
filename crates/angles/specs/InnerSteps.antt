-- The code's steps to an arc tangent and to an angle, without the halvings in between, so that those of several can be worked out by turns. No rule rests on these: the rules are
-- `atan_of` and `direction_of`, and `proofs/Steps.antt` ties these to them. Definitions only.
use Rattle.std.specs.Prelude.{List, map, slice_index_or, ℕ, Float}
use Rattle.std.specs.Float.Ieee.{lt, le, eq, nan}
use Rattle.floats.specs.Binary64.{◌⊖◌, ◌⊗◌, ◌⊘◌, zero, one, four}
use Rattle.floats.specs.Choice.{when◌give◌else◌, ◌and◌}
use Rattle.floats.specs.Size.{abs_of}
use Rattle.vectors.specs.declared.Vector2.{Vector2}
use Rattle.angles.specs.declared.Halving.{Halving}
use Rattle.angles.specs.Angle.{quarter_turn, wide_angle}

-- the tangents that are on their way to be halved
abbrev pub tangents : List Halving → List Float
tangents hs = map (λ (h : Halving). h.x) hs

-- the number whose atan `atan_of x` is found by
unfoldable pub reduced : Float → Float
reduced x = when lt one (abs_of x) give one ⊘ x else x

-- `atan_of x`, from a = atan(reduced x)
unfoldable pub restored : Float → Float → Float
restored x a = when lt one (abs_of x) give quarter_turn x ⊖ a else a

-- the number whose atan `direction_of x y` is found by
unfoldable pub slope : Float → Float → Float
slope x y = when le (abs_of y) (abs_of x) give y ⊘ x else x ⊘ y

-- `direction_of x y`, from a = atan(slope x y)
unfoldable pub direction_by : Float → Float → Float → Float
direction_by x y a =
    when eq x zero and eq y zero give zero else
    when le (abs_of y) (abs_of x) give wide_angle x y a else quarter_turn y ⊖ a

-- the same of the vector at i, from the arc tangents of all slopes
abbrev pub direction_at : List Vector2 → List Float → ℕ → Float
direction_at vectors atans i =
    let v = slice_index_or vectors i (record { x = nan; y = nan }) in
    direction_by v.x v.y (slice_index_or atans i nan)

-- the sweep of a bulge, from the arc tangent of what it is reduced to
abbrev pub sweep_by : Float → Float → Float
sweep_by b a = four ⊗ restored b a
