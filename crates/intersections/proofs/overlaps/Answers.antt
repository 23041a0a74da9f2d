-- `intersections::overlaps` meets its contract. Assumes nothing.
use Rattle.floats.proofs.Choice.{branches}
use Rattle.intersections.proofs.overlaps.Goals as goal

pub returns-then-on_one_line : goal.returns-then-on_one_line
returns-then-on_one_line c = search branches

pub returns-else-on_one_line : goal.returns-else-on_one_line
returns-else-on_one_line c = search branches
