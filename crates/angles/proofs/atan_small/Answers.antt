-- `atan_small` meets its contract. Assumes nothing.
use Rattle.angles.proofs.Steps.{small_steps}
use Rattle.angles.proofs.atan_small.Goals as goal

pub returns : goal.returns
returns c = cc (small_steps c.args.x)
