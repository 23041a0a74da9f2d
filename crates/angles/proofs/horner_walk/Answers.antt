-- `horner_walk` meets its contract. Assumes nothing.
use mathlib.Core.Path.{◌≡◌, refl}
use mathlib.Core.List.{List, [], ◌∷◌}
use Prim.Native.Nat.{◌-◌, ◌≤◌, ◌<◌}
use native.Mathlib.Omega.{arith}
use lib.ListN.{length, take, drop, get_or}
use Rattle.std.proofs.lemmas.List.{take_all}
use lib.Ieee.{Float, nan}
use Rattle.floats.specs.Binary64.{zero}
use Rattle.std.specs.List.{fold}
use Rattle.angles.specs.Angle.{horner_step, horner}
use Rattle.angles.proofs.horner_walk.Goals as goal

of_none : (t : List Float) (x : Float) → length t < 1 → zero ≡ horner t x
unfolding horner
of_none [] x h = refl
of_none (c ∷ cs) x h = absurd (omega arith)

from_first : (t : List Float) (x : Float) → 1 ≤ length t → fold (λ (a c : Float). horner_step a c x) (get_or t 0 nan) (drop 0 (take (length t - 1) (drop 1 t))) ≡ horner t x
unfolding horner
from_first [] x h = absurd (omega arith)
from_first (c ∷ cs) x h = rw (take_all (length (c ∷ cs) - 1) cs (omega arith)) refl

pub returns-in_default : goal.returns-in_default
returns-in_default c = of_none _ _ c.in_default.len_below

pub loop-c-init : goal.loop-c-init
loop-c-init c = from_first _ _ c.in-len1-up.len_at_least
