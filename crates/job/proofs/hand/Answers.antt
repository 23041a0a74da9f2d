-- `job::hand` meets its contract. Assumes nothing.
use Rattle.moves.proofs.Laws.{byte_bit}
use Rattle.job.specs.Handed.{five_of}
use Rattle.job.proofs.hand.Goals as goal

pub returns : goal.returns
unfolding five_of
returns c =
    (c.number-n.ensures, rw (byte_bit c.result_in-r.result.closed, c.number-n.ensures, c.place-k.ensures, c.result_in-r.ensures))
