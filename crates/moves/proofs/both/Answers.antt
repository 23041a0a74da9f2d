-- `moves::both` meets its contract. Assumes nothing.
use mathlib.Core.Path.{◌≡◌, refl}
use mathlib.Core.Bool.{Bool, true, false, ◌&&◌}
use Rattle.floats.specs.Choice.{◌and◌}
use Rattle.moves.proofs.both.Goals as goal

same : (a b : Bool) → (a && b) ≡ (a and b)
unfolding ◌and◌
same true b = refl
same false b = refl

pub returns : goal.returns
returns c = same _ _
