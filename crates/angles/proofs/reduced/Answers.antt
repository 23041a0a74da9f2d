-- `reduced` meets its contract. Assumes nothing.
use Rattle.floats.proofs.Same.{choices}
use Rattle.angles.specs.InnerSteps.{reduced}
use Rattle.angles.proofs.reduced.Goals as goal

pub returns-then-is_steep : goal.returns-then-is_steep
unfolding reduced
returns-then-is_steep c = search choices

pub returns : goal.returns
unfolding reduced
returns c = search choices
