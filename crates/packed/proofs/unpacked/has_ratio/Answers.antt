-- `has_ratio` meets its contract. Assumes nothing.
use mathlib.Core.Path.{refl}
use Rattle.packed.proofs.unpacked.has_ratio.Goals as goal

pub returns-in-Either : goal.returns-in-Either
returns-in-Either c = rw c.in-Either.is refl
