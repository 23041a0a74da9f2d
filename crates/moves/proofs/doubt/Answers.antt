-- `moves::doubt` meets its contract. Assumes nothing.
use Rattle.moves.specs.Drawing.{finite_vertex}
use Rattle.moves.proofs.Finite.{all-finite}
use Rattle.moves.proofs.doubt.Goals as goal

pub returns : goal.returns
unfolding finite_vertex
returns c = all-finite _ _ _
