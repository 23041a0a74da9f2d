-- `horner_step` meets its contract. Assumes nothing.
use mathlib.Core.Path.{refl}
use Rattle.angles.specs.Angle.{horner_step}
use Rattle.angles.proofs.horner_step.Goals as goal

pub returns : goal.returns
unfolding horner_step
returns c = refl
