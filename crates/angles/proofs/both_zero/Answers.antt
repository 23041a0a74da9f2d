-- `both_zero` meets its contract. Assumes nothing.
use Rattle.floats.proofs.Same.{choices}
use Rattle.angles.proofs.both_zero.Goals as goal

pub returns-then-x : goal.returns-then-x
returns-then-x c = search choices

pub returns-else-x : goal.returns-else-x
returns-else-x c = search choices
