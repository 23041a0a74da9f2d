-- `compare::Output::is_many` meets its contract. Assumes nothing.
use Rattle.compare.specs.Compare.{is_many}
use Rattle.compare.proofs.Output.is_many.Goals as goal

pub returns : goal.returns
unfolding is_many
returns c = rw c.vertices.ensures
