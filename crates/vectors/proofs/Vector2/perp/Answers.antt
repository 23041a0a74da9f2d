-- `vectors::Vector2::perp` meets its contract. Assumes nothing.
use mathlib.Core.Path.{refl}
use Rattle.vectors.specs.Plane.{perp}
use Rattle.vectors.proofs.Vector2.perp.Goals as goal

pub returns : goal.returns
unfolding perp
returns c = refl
