-- `joins::clamp_cos` meets its contract. Assumes nothing.
use Rattle.floats.proofs.Same.{choices}
use Rattle.joins.specs.Connector.{clamp_cos}
use Rattle.joins.proofs.clamp_cos.Goals as goal

pub returns-then-cos : goal.returns-then-cos
unfolding clamp_cos
returns-then-cos c = search choices depth 10 fits 20000

pub returns-then-cos-2 : goal.returns-then-cos-2
unfolding clamp_cos
returns-then-cos-2 c = search choices depth 10 fits 20000

pub returns : goal.returns
unfolding clamp_cos
returns c = search choices depth 10 fits 20000
