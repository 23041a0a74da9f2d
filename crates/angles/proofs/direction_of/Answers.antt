-- `direction_of` meets its contract. Assumes nothing.
use Rattle.angles.proofs.Steps.{direction_steps}
use Rattle.angles.proofs.direction_of.Goals as goal

pub returns : goal.returns
returns c = cc (direction_steps _ _)
