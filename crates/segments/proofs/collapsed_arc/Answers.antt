-- `segments::collapsed_arc` meets its contract. Assumes nothing.
use Rattle.segments.specs.Segment.{collapsed_arc}
use Rattle.segments.proofs.collapsed_arc.Goals as goal

pub returns : goal.returns
unfolding collapsed_arc
returns c = cc
