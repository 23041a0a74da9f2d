-- `sweeps::Memo::keep_four` meets its contract. Assumes nothing.
use Rattle.sweeps.proofs.Memo.keep_four.Goals as goal

pub keep-requires-3 : goal.keep-requires-3
keep-requires-3 c = rw c.sweeps.ensures
