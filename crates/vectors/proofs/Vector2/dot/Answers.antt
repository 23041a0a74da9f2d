-- `vectors::Vector2::dot` meets its contract. Assumes nothing.
use mathlib.Core.Path.{refl}
use Rattle.vectors.specs.Plane.{dot}
use Rattle.vectors.proofs.Vector2.dot.Goals as goal

pub returns : goal.returns
unfolding dot
returns c = refl
