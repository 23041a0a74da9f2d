-- `segments::PlineVertex::bulge_is_zero` meets its contract. Assumes nothing.
use Rattle.segments.specs.Vertex.{bulge_is_zero}
use Rattle.segments.proofs.PlineVertex.bulge_is_zero.Goals as goal

pub returns : goal.returns
unfolding bulge_is_zero
returns c = cc
