-- `vectors::Vector2::perp_dot` meets its contract. Assumes nothing.
use mathlib.Core.Path.{refl}
use Rattle.vectors.specs.Plane.{cross}
use Rattle.vectors.proofs.Vector2.perp_dot.Goals as goal

pub returns : goal.returns
unfolding cross
returns c = refl
