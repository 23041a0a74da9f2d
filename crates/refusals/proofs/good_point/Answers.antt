-- `refusals::good_point` meets its contract. Assumes nothing.
use Rattle.refusals.proofs.Both.{both}
use Rattle.refusals.proofs.good_point.Goals as goal

pub returns : goal.returns
returns c = both _ _ c.good_number.ensures c.good_number-2.ensures
