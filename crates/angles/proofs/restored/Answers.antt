-- `restored` meets its contract. Assumes nothing.
use Rattle.floats.proofs.Same.{choices}
use Rattle.angles.specs.InnerSteps.{restored}
use Rattle.angles.proofs.restored.Goals as goal

pub returns-then-is_steep : goal.returns-then-is_steep
unfolding restored
returns-then-is_steep c = search choices depth 10 fits 20000

pub returns : goal.returns
unfolding restored
returns c = search choices
