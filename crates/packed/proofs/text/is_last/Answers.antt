-- `is_last` meets its contract. Assumes nothing.
use Rattle.floats.proofs.Same.{choices}
use Rattle.packed.proofs.text.is_last.Goals as goal

pub returns-then-not-closed : goal.returns-then-not-closed
returns-then-not-closed c = search choices depth 10 fits 20000

pub returns-else-not-closed : goal.returns-else-not-closed
returns-else-not-closed c = search choices depth 10 fits 20000
