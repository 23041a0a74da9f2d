-- `intersections::not_beyond_end` meets its contract. Assumes nothing.
use Rattle.floats.proofs.Choice.{branches}
use Rattle.intersections.proofs.not_beyond_end.Goals as goal

pub returns-then-a : goal.returns-then-a
returns-then-a c = search branches

pub returns-else-a : goal.returns-else-a
returns-else-a c = search branches
