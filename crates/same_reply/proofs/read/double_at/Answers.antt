-- `read::double_at` meets its contract. Assumes nothing.
use Rattle.same_reply.specs.Read.{double_at}
use Rattle.same_reply.proofs.read.double_at.Goals as goal

pub returns : goal.returns
unfolding double_at
returns c = cc
