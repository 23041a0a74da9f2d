-- `moves::Move::connector` meets its contract. Assumes nothing.
use Rattle.moves.specs.Made.{connector_move}
use Rattle.moves.proofs.Move.connector.Goals as goal

pub returns : goal.returns
unfolding connector_move
returns c = simp c.of_connector.ensures
