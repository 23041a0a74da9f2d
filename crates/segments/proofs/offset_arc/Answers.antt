-- `segments::offset_arc` meets its contract. Assumes nothing.
use Rattle.segments.specs.InnerSteps.{swept_arc}
use Rattle.segments.proofs.offset_arc.Goals as goal

pub returns : goal.returns
unfolding swept_arc
returns c = cc
