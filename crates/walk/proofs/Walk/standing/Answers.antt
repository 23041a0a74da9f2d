-- `walk::Walk::standing` meets its contract. Assumes nothing.
use mathlib.Core.Path.{refl}
use Rattle.walk.specs.InnerSteps.{standing_at}
use Rattle.walk.proofs.Walk.standing.Goals as goal

pub returns : goal.returns
unfolding standing_at
returns c = (cc, record { marked = refl; seen = refl })
