-- An arc's start angle, as it was seen or not, and what a step may hand back of it. Assumes nothing.
use mathlib.Core.Path.{◌≡◌, refl, sym, ap}
use mathlib.Core.Bool.{Bool, true, false}
use lib.Ieee.{Float, eq}
use Rattle.angles.specs.Angle.{angle_of}
use Rattle.floats.specs.Choice.{when◌give◌else◌}
use Rattle.floats.proofs.Choice.{yes, no}
use Rattle.meetings.specs.declared.SeenArc.{SeenArc}
use Rattle.meetings.specs.InnerSteps.{start_angle_of, seen_as}

pub known : (a : SeenArc) → eq a.seen a.seen ≡ true → a.seen ≡ start_angle_of a
unfolding start_angle_of
known a h = yes _ _ _ h refl

pub unknown : (a : SeenArc) → eq a.seen a.seen ≡ false → angle_of a.center a.start ≡ start_angle_of a
unfolding start_angle_of
unknown a h = no _ _ _ h refl

-- what was worked out is handed back: a NaN is worked out again
again : (b : Bool) (s x : Float) → b ≡ eq s s → when eq (when b give s else x) (when b give s else x) give (when b give s else x) else x ≡ when b give s else x
unfolding when◌give◌else◌
again true s x h = ap (λ (t : Bool). when t give s else x) (sym h)
again false s x h = same (eq x x)
  where
    same : (t : Bool) → when t give x else x ≡ x
    same true = refl
    same false = refl

pub remembered : (a : SeenArc) {x : Float} → x ≡ start_angle_of a → start_angle_of (seen_as x a) ≡ start_angle_of a
unfolding start_angle_of
remembered a h = rw h (again (eq a.seen a.seen) a.seen (angle_of a.center a.start) refl)
