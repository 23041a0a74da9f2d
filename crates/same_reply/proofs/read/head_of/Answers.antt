-- `read::head_of` meets its contract. Assumes nothing.
use Rattle.same_reply.specs.Read.{lines_from}
use Rattle.same_reply.proofs.read.head_of.Goals as goal

pub returns-clause-lines_value : goal.returns-clause-lines_value
unfolding lines_from
returns-clause-lines_value c = rw (← c.closed_of-closed.ensures, ← c.count_of-count.ensures.value) c.length_of_head.ensures.value
