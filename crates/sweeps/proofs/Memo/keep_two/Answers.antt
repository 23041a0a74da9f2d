-- `sweeps::Memo::keep_two` meets its contract. Assumes nothing.
use Rattle.sweeps.proofs.Memo.keep_two.Goals as goal

pub keep-requires : goal.keep-requires
keep-requires c = rw c.sweeps.ensures
