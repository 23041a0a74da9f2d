-- `segments::chord_distance` meets its contract. Assumes nothing.
use Rattle.segments.specs.Vertex.{chord_distance}
use Rattle.segments.proofs.chord_distance.Goals as goal

pub returns : goal.returns
unfolding chord_distance
returns c = cc
