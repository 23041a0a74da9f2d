-- `why::shown_param` meets its contract. Assumes nothing.
use mathlib.Core.Path.{◌≡◌, refl}
use lib.Ieee.{Float}
use Rattle.floats.specs.Binary64.{zero}
use Rattle.moves.specs.declared.Reason.{Reason}
use Rattle.moves.specs.declared.Reason.TheVariants.{TurnedBack}
use Rattle.why.specs.Why.{param_of}
use Rattle.why.proofs.shown_param.Goals as goal

none-shown : (r : Reason) (t : Float) → (r ≡ TurnedBack → ⊥) → zero ≡ param_of r t
unfolding param_of
none-shown TurnedBack t h = absurd (h refl)
none-shown _ t h = refl

pub returns-in-TurnedBack : goal.returns-in-TurnedBack
unfolding param_of
returns-in-TurnedBack c = rw c.in-TurnedBack.is refl

pub returns-in_default : goal.returns-in_default
returns-in_default c = none-shown _ _ c.in_default.not-TurnedBack
