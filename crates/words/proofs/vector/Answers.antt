-- `vector` meets its contract. Assumes nothing.
use Rattle.words.specs.InnerSteps.{vector_at}
use Rattle.words.proofs.vector.Goals as goal

pub returns : goal.returns
unfolding vector_at
returns c = simp (c.before.number_at.ensures, c.number_at-2.ensures)
