-- `atan` meets its contract. Assumes nothing.
use Rattle.angles.proofs.Steps.{atan-restored}
use Rattle.angles.proofs.atan.Goals as goal

pub returns : goal.returns
returns c = cc (atan-restored _)
