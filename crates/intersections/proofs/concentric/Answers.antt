-- `intersections::concentric` meets its contract. Assumes nothing.
use Rattle.floats.proofs.Choice.{branches}
use Rattle.intersections.proofs.concentric.Goals as goal

pub returns-then-fuzzy_eq_eps : goal.returns-then-fuzzy_eq_eps
returns-then-fuzzy_eq_eps c = search branches

pub returns : goal.returns
returns c = search branches
