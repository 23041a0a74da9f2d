-- `course::Course::undrawn` meets its contract. Assumes nothing.
use mathlib.Core.Path.{refl}
use native.Mathlib.Omega.{arith}
use Rattle.floats.specs.Choice.{when◌give◌else◌, ◌and◌}
use Rattle.walk.specs.InnerSteps.{drawn_by}
use Rattle.course.proofs.Course.undrawn.Goals as goal

pub returns : goal.returns
unfolding drawn_by when◌give◌else◌ ◌and◌
returns c = (refl, omega arith)
