-- `floats::is_finite` meets its contract. Assumes nothing.
use Rattle.std.proofs.Common.{◌≡◌, refl, ◌∙◌}
use Rattle.std.specs.Float.{float_is_finite}
use lib.Ieee.{Float, nan, inf, fin}
use Rattle.floats.specs.Size.{finite}
use Rattle.floats.proofs.is_finite.Goals as goal

alike : (x : Float) → float_is_finite x ≡ finite x
unfolding float_is_finite finite
alike nan = refl
alike (inf s) = refl
alike (fin s m e) = refl

pub returns : goal.returns
returns c = c.is_finite.ensures.value ∙ alike c.args.x
