-- `segments::CarriedArc::tangent_at` meets its contract. Assumes nothing.
use Rattle.segments.specs.Segment.{tangent_at}
use Rattle.segments.proofs.CarriedArc.tangent_at.Goals as goal

pub returns : goal.returns
unfolding tangent_at
returns c = cc
