-- atan, tan, the angle of a point, and bulge to sweep and back (01 §3, its last two lines). Products and quotients come before sums and differences, otherwise the left step comes first, and each step is rounded; `lt a b` is a < b, and `le a b` is a ≤ b. Definitions only.
use Rattle.std.specs.Prelude.{List, [], ◌∷◌, Float}
use Rattle.std.specs.List.{fold}
use Rattle.std.specs.Float.Ieee.{neg, lt, le, eq}
use Rattle.floats.specs.Binary64.{◌⊕◌, ◌⊖◌, ◌⊗◌, ◌⊘◌, zero, one, four, eight}
use Rattle.floats.specs.Choice.{when◌give◌else◌, ◌and◌}
use Rattle.floats.specs.Size.{abs_of}
use Rattle.floats.specs.Root.{sqrt_of}
use Rattle.vectors.specs.declared.Vector2.{Vector2}
use Rattle.vectors.specs.Plane.{◌⊟◌}
use Rattle.angles.specs.Tables.{pi, half_pi, two_pi, atan_table, sin_table, cos_table}

-- Horner's rule: the value so far, times x, plus the next coefficient
unfoldable pub horner_step : Float → Float → Float → Float
horner_step a c x = a ⊗ x ⊕ c

-- a table's value at x: the steps over all but the highest coefficient, where they start (no table is empty)
unfoldable pub horner : List Float → Float → Float
unfolding horner_step
horner [] x = zero
horner (c ∷ cs) x = fold (λ (a d : Float). horner_step a d x) c cs

-- x ← x/(1+√(1+x·x)): the tangent of half the angle whose tangent is x
unfoldable pub halve : Float → Float
halve x = x ⊘ (one ⊕ sqrt_of (one ⊕ x ⊗ x))

-- 8·(x·Horner in x·x): the angle of whose eighth x is the tangent
unfoldable pub atan_by_eighth : Float → Float
unfolding atan_table
atan_by_eighth x = eight ⊗ (x ⊗ horner atan_table (x ⊗ x))

-- atan where |x| ≤ 1: three times x ← x/(1+√(1+x·x)), then the series
unfoldable pub atan_small : Float → Float
unfolding atan_by_eighth
atan_small x = atan_by_eighth (halve (halve (halve x)))

-- ±π/2, minus only below zero
unfoldable pub quarter_turn : Float → Float
quarter_turn x = when lt x zero give neg half_pi else half_pi

-- atan: |x| > 1 gives ±π/2 − atan(1/x), and there |1/x| ≤ 1 (proofs/Turned.antt has it in 01's words)
unfoldable pub atan_of : Float → Float
atan_of x = when lt one (abs_of x) give quarter_turn x ⊖ atan_small (one ⊘ x) else atan_small x

-- t ← (t+t)/(1−t·t): the tangent of twice the angle whose tangent is t
unfoldable pub tan_step : Float → Float
tan_step t = (t ⊕ t) ⊘ (one ⊖ t ⊗ t)

-- the tangent of an eighth of x: y = x/8, s and c by the two series in y·y, s/c
unfoldable pub tan_eighth : Float → Float
unfolding sin_table cos_table
tan_eighth x =
    let y = x ⊘ eight in
    let s = y ⊗ horner sin_table (y ⊗ y) in
    let c = horner cos_table (y ⊗ y) in
    s ⊘ c

-- three times t ← (t+t)/(1−t·t)
unfoldable pub tan_by_eighth : Float → Float
tan_by_eighth t = tan_step (tan_step (tan_step t))

-- tan: t = s/c, and then the three steps
unfoldable pub tan_of : Float → Float
tan_of x = tan_by_eighth (tan_eighth x)

-- the angle of (x, y) where |x| ≥ |y|, from a = atan(y/x): a, for x < 0 plus π if y ≥ 0, else minus π
unfoldable pub wide_angle : Float → Float → Float → Float
wide_angle x y a = when lt x zero give (when le zero y give a ⊕ pi else a ⊖ pi) else a

-- the angle of (x, y): 0 if both are 0; where |x| ≥ |y| by atan(y/x); otherwise ±π/2 − atan(x/y), minus only if y < 0
unfoldable pub direction_of : Float → Float → Float
direction_of x y =
    when eq x zero and eq y zero give zero else
    when le (abs_of y) (abs_of x) give wide_angle x y (atan_of (y ⊘ x)) else quarter_turn y ⊖ atan_of (x ⊘ y)

-- 000's angle(center, point): that of point less centre
unfoldable pub angle_of : Vector2 → Vector2 → Float
angle_of center point =
    let v = point ⊟ center in
    direction_of v.x v.y

-- bulge to sweep, 000's angle_from_bulge
unfoldable pub sweep_of : Float → Float
sweep_of b = four ⊗ atan_of b

-- sweep to bulge, 000's bulge_from_angle
unfoldable pub bulge_of : Float → Float
bulge_of a = tan_of (a ⊘ four)

-- 000's normalize_radians: 2π is added to a negative angle
unfoldable pub normalized_angle : Float → Float
normalized_angle a = when lt a zero give a ⊕ two_pi else a
