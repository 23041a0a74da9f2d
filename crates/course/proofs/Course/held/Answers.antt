-- `course::Course::held` meets its contract. Assumes nothing.
use mathlib.Core.Path.{refl}
use Rattle.course.specs.Course.{held}
use Rattle.course.proofs.Course.held.Goals as goal

pub returns : goal.returns
unfolding held
returns c = refl
