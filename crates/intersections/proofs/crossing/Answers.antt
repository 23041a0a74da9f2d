-- `intersections::crossing` meets its contract. Assumes nothing.
use Rattle.floats.proofs.Choice.{branches}
use Rattle.intersections.proofs.crossing.Goals as goal

pub returns-then-both_in_span : goal.returns-then-both_in_span
returns-then-both_in_span c = search branches

pub returns : goal.returns
returns c = search branches
