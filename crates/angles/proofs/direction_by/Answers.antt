-- `direction_by` meets its contract. Assumes nothing.
use Rattle.floats.proofs.Same.{choices}
use Rattle.angles.specs.InnerSteps.{direction_by}
use Rattle.angles.proofs.direction_by.Goals as goal

pub returns-then-both_zero : goal.returns-then-both_zero
unfolding direction_by
returns-then-both_zero c = search choices

pub returns-then-is_wide : goal.returns-then-is_wide
unfolding direction_by
returns-then-is_wide c = search choices depth 10 fits 20000

pub returns : goal.returns
unfolding direction_by
returns c = search choices depth 10 fits 20000
