-- `compare::differ` meets its contract. Assumes nothing.
use Rattle.compare.specs.Compare.{differ}
use Rattle.compare.proofs.differ.Goals as goal

pub returns : goal.returns
unfolding differ
returns c = rw (c.bits_of-2.ensures, c.bits_of.ensures)
