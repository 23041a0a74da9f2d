-- `intersections::reaches_span` meets its contract. Assumes nothing.
use Rattle.floats.proofs.Choice.{branches}
use Rattle.intersections.proofs.reaches_span.Goals as goal

pub returns-then-not_beyond_end : goal.returns-then-not_beyond_end
returns-then-not_beyond_end c = search branches

pub returns-else-not_beyond_end : goal.returns-else-not_beyond_end
returns-else-not_beyond_end c = search branches
