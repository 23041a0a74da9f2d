-- `pieces::hand` meets its contract. Assumes nothing.
use mathlib.Core.Path.{refl}
use Rattle.pieces.specs.Handed.{five_of}
use Rattle.pieces.proofs.hand.Goals as goal

pub returns : goal.returns
unfolding five_of
returns c = (refl, refl)
