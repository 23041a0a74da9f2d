-- `sheet::Places::all_finite` meets its contract. Assumes nothing.
use Rattle.moves.proofs.Finite.{sure_itself}
use Rattle.sheet.proofs.Places.all_finite.Goals as goal

pub returns : goal.returns
returns c = sure_itself _
