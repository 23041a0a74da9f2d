-- `segments::moved_radially` meets its contract. Assumes nothing.
use Rattle.segments.specs.Segment.{moved}
use Rattle.segments.proofs.moved_radially.Goals as goal

pub returns : goal.returns
unfolding moved
returns c = cc
