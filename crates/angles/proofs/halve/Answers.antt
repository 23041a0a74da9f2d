-- `halve` meets its contract. Assumes nothing.
use Rattle.angles.specs.Angle.{halve}
use Rattle.angles.proofs.halve.Goals as goal

pub returns : goal.returns
unfolding halve
returns c = cc
