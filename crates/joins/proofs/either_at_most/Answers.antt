-- `joins::either_at_most` meets its contract. Assumes nothing.
use Rattle.floats.proofs.Choice.{branches}
use Rattle.joins.proofs.either_at_most.Goals as goal

pub returns-then-a-limit : goal.returns-then-a-limit
returns-then-a-limit c = search branches

pub returns-else-a-limit : goal.returns-else-a-limit
returns-else-a-limit c = search branches
