-- `refusals::good_offset` meets its contract. Assumes nothing.
use Rattle.refusals.specs.Limits.{good_offset}
use Rattle.refusals.proofs.good_offset.Goals as goal

pub returns : goal.returns
unfolding good_offset
returns c = cc
