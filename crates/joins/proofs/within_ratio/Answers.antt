-- `joins::within_ratio` meets its contract. Assumes nothing.
use mathlib.Core.Path.{refl}
use Rattle.joins.specs.Corner.{within_ratio}
use Rattle.joins.proofs.within_ratio.Goals as goal

pub returns : goal.returns
unfolding within_ratio
returns c = rw c.dist_squared.ensures refl
