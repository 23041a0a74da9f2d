-- 01's wording of atan past 1: ±π/2 − atan(1/x). `atan_of` says at once what that atan is, since |1/x| is at most 1. Assumes nothing.
use mathlib.Core.Path.{◌≡◌, refl, sym, subst}
use mathlib.Core.Bool.{true, false}
use lib.Dec.{T}
use lib.Ieee.{Float, lt, le, of_bits}
use lib.Ieee.Bits.{is_true}
use Rattle.floats.specs.Binary64.{◌⊖◌, ◌⊘◌, one}
use Rattle.floats.specs.Size.{abs_of}
use Rattle.floats.proofs.Choice.{yes, no}
use Rattle.floats.proofs.Order.{lt→le}
use Rattle.angles.specs.Angle.{quarter_turn, atan_small, atan_of}
use Rattle.angles.proofs.Gentle.{quotient}

-- the reciprocal of what is above 1 is not above it
reciprocal : (x : Float) → lt one (abs_of x) ≡ true → lt one (abs_of (one ⊘ x)) ≡ false
unfolding abs_of of_bits
reciprocal x h = quotient one x (is_true (le one (abs_of x)) (lt→le one (abs_of x) (subst T (sym h) tt)))

pub atan-turned : (x : Float) → lt one (abs_of x) ≡ true → atan_of x ≡ quarter_turn x ⊖ atan_of (one ⊘ x)
unfolding atan_of
atan-turned x h =
    let i : atan_small (one ⊘ x) ≡ atan_of (one ⊘ x) = no _ _ _ (reciprocal x h) refl in
    rw (sym i) (sym (yes _ _ _ h refl))
