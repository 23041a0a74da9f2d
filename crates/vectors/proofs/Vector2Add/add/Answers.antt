-- `add` of `Vector2` meets its contract. Assumes nothing.
use mathlib.Core.Path.{refl}
use Rattle.vectors.specs.Plane.{◌⊞◌}
use Rattle.vectors.proofs.Vector2Add.add.Goals as goal

pub returns : goal.returns
unfolding ◌⊞◌
returns c = refl
