-- `segments::arc_support` meets its contract. Assumes nothing.
use Rattle.segments.specs.Vertex.{arc_support}
use Rattle.segments.specs.InnerSteps.{chord_of}
use Rattle.segments.proofs.arc_support.Goals as goal

pub returns : goal.returns
unfolding chord_of arc_support
returns c = cc
