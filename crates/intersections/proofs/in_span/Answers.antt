-- `intersections::in_span` meets its contract. Assumes nothing.
use Rattle.floats.proofs.Choice.{branches}
use Rattle.intersections.specs.Lines.{in_span}
use Rattle.intersections.proofs.in_span.Goals as goal

pub returns-then-eps-t : goal.returns-then-eps-t
unfolding in_span
returns-then-eps-t c = search branches

pub returns-else-eps-t : goal.returns-else-eps-t
unfolding in_span
returns-else-eps-t c = search branches
