-- `segments::PlineVertex::bulge_is_neg` meets its contract. Assumes nothing.
use mathlib.Core.Path.{refl}
use Rattle.segments.specs.Vertex.{bulge_is_neg}
use Rattle.segments.proofs.PlineVertex.bulge_is_neg.Goals as goal

pub returns : goal.returns
unfolding bulge_is_neg
returns c = refl
