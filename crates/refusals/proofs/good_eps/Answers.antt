-- `refusals::good_eps` meets its contract. Assumes nothing.
use Rattle.refusals.specs.Limits.{good_eps}
use Rattle.refusals.proofs.good_eps.Goals as goal

pub returns : goal.returns
unfolding good_eps
returns c = cc
