-- `settings_of` meets its contract. Assumes nothing.
use Rattle.floats.proofs.Choice.{branches}
use Rattle.stored.proofs.settings_of.Goals as goal

pub returns-then-pointed : goal.returns-then-pointed
returns-then-pointed c = search branches

pub returns : goal.returns
returns c = search branches
