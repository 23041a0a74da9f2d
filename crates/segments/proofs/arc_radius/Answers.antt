-- `segments::arc_radius` meets its contract. Assumes nothing.
use Rattle.segments.specs.Vertex.{arc_radius}
use Rattle.segments.proofs.arc_radius.Goals as goal

pub returns : goal.returns
unfolding arc_radius
returns c = cc
