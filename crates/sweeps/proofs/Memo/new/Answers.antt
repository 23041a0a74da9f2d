-- `Memo::new` meets its contract. Assumes nothing.
use Rattle.sweeps.proofs.Slots.{sweep-of-zero}
use Rattle.sweeps.proofs.Memo.new.Goals as goal

pub invariant_of-result : goal.invariant_of-result
invariant_of-result c = record { swept = sweep-of-zero }
