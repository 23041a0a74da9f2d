-- `joins::clamp_sin` meets its contract. Assumes nothing.
use Rattle.floats.proofs.Same.{choices}
use Rattle.joins.specs.Connector.{clamp_sin}
use Rattle.joins.proofs.clamp_sin.Goals as goal

pub returns-then-sin : goal.returns-then-sin
unfolding clamp_sin
returns-then-sin c = search choices depth 10 fits 20000

pub returns : goal.returns
unfolding clamp_sin
returns c = search choices depth 10 fits 20000
