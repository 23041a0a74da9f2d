-- `intersections::both_in_span` meets its contract. Assumes nothing.
use Rattle.floats.proofs.Choice.{branches}
use Rattle.intersections.proofs.both_in_span.Goals as goal

pub returns-then-in_span : goal.returns-then-in_span
returns-then-in_span c = search branches

pub returns-else-in_span : goal.returns-else-in_span
returns-else-in_span c = search branches
