-- `intersections::not_before_start` meets its contract. Assumes nothing.
use Rattle.floats.proofs.Choice.{branches}
use Rattle.intersections.proofs.not_before_start.Goals as goal

pub returns-then-a : goal.returns-then-a
returns-then-a c = search branches

pub returns-else-a : goal.returns-else-a
returns-else-a c = search branches
