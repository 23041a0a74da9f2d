-- `tan_step` meets its contract. Assumes nothing.
use mathlib.Core.Path.{refl}
use Rattle.angles.specs.Angle.{tan_step}
use Rattle.angles.proofs.tan_step.Goals as goal

pub returns : goal.returns
unfolding tan_step
returns c = refl
