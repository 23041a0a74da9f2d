-- The code's steps make the rules' arc tangent and direction. Assumes nothing.
use mathlib.Core.Path.{◌≡◌, refl, ap, ◌∙◌}
use mathlib.Core.Bool.{Bool, true, false}
use mathlib.Core.List.{List}
use Prim.Native.Nat.{ℕ, ◌<◌}
use lib.Ieee.{Float, nan, lt, le, eq}
use Rattle.std.specs.Prelude.{map}
use Rattle.std.proofs.Math.ListN.{length, length-map, get_or}
use Rattle.std.proofs.lemmas.List.{get_or-map}
use Rattle.floats.specs.Binary64.{◌⊖◌, ◌⊗◌, ◌⊘◌, zero, one, four}
use Rattle.floats.specs.Choice.{when◌give◌else◌, ◌and◌}
use Rattle.floats.specs.Size.{abs_of}
use Rattle.floats.proofs.Choice.{no}
use Rattle.angles.specs.Angle.{halve, atan_by_eighth, atan_small, quarter_turn, atan_of, wide_angle, direction_of, sweep_of}
use Rattle.angles.specs.InnerSteps.{reduced, restored, slope, direction_by, sweep_by}
use Rattle.angles.proofs.Gentle.{gentle_slope}

atan-by :
    (steep : Bool) (x : Float) →
    (let a = atan_small (when steep give one ⊘ x else x) in when steep give quarter_turn x ⊖ a else a) ≡ when steep give quarter_turn x ⊖ atan_small (one ⊘ x) else atan_small x
unfolding when◌give◌else◌
atan-by true x = refl
atan-by false x = refl

pub atan-restored : (x : Float) → restored x (atan_small (reduced x)) ≡ atan_of x
unfolding reduced restored atan_of
atan-restored x = atan-by (lt one (abs_of x)) x

pub small_steps : (x : Float) → atan_by_eighth (halve (halve (halve x))) ≡ atan_small x
unfolding atan_small
small_steps x = refl

direction_by_lem :
    (none wide : Bool) (x y : Float) →
    (let a = atan_of (when wide give y ⊘ x else x ⊘ y) in when none give zero else when wide give wide_angle x y a else quarter_turn y ⊖ a)
    ≡ when none give zero else when wide give wide_angle x y (atan_of (y ⊘ x)) else quarter_turn y ⊖ atan_of (x ⊘ y)
unfolding when◌give◌else◌
direction_by_lem true wide x y = refl
direction_by_lem false true x y = refl
direction_by_lem false false x y = refl

pub direction_steps : (x y : Float) → direction_by x y (atan_of (slope x y)) ≡ direction_of x y
unfolding slope direction_by direction_of
direction_steps x y = direction_by_lem (eq x zero and eq y zero) (le (abs_of y) (abs_of x)) x y

-- a slope needs no reducing
slope-small : (x y : Float) → atan_small (slope x y) ≡ atan_of (slope x y)
unfolding atan_of
slope-small x y = no _ _ _ (gentle_slope x y) refl

pub direction_small : (x y : Float) → direction_by x y (atan_small (slope x y)) ≡ direction_of x y
direction_small x y = ap (direction_by x y) (slope-small x y) ∙ direction_steps x y

pub sweep_steps : (b : Float) → sweep_by b (atan_small (reduced b)) ≡ sweep_of b
unfolding sweep_of
sweep_steps b = ap (λ (a : Float). four ⊗ a) (atan-restored b)

-- the arc tangent at an index, of what s makes of the element there
pub atan_at :
    {A : Type 0} (s : A → Float) (xs : List A) {small atans : List Float} (d : A) (i : ℕ) →
    small ≡ map s xs →
    atans ≡ map atan_small small →
    i < length xs →
    get_or atans i nan ≡ atan_small (s (get_or xs i d))
atan_at s xs d i p q within =
    rw (q, p)
    (get_or-map atan_small (map s xs) i nan nan (rw length-map within) ∙ ap atan_small (get_or-map s xs i d nan within))
