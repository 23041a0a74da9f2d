-- `slope` meets its contract. Assumes nothing.
use Rattle.floats.proofs.Same.{choices}
use Rattle.angles.specs.InnerSteps.{slope}
use Rattle.angles.proofs.slope.Goals as goal

pub returns-then-is_wide : goal.returns-then-is_wide
unfolding slope
returns-then-is_wide c = search choices

pub returns : goal.returns
unfolding slope
returns c = search choices
