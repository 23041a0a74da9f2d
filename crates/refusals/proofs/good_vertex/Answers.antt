-- `refusals::good_vertex` meets its contract. Assumes nothing.
use Rattle.refusals.specs.Limits.{good_vertex}
use Rattle.refusals.proofs.Both.{both}
use Rattle.refusals.proofs.good_vertex.Goals as goal

pub returns : goal.returns
unfolding good_vertex
returns c = both _ _ c.good_point.ensures c.good_number.ensures
