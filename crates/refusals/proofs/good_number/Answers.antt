-- `refusals::good_number` meets its contract. Assumes nothing.
use Rattle.floats.proofs.Same.{choices}
use Rattle.refusals.specs.Limits.{inside}
use Rattle.refusals.proofs.good_number.Goals as goal

pub returns-then-lo-x : goal.returns-then-lo-x
unfolding inside
returns-then-lo-x c = search choices

pub returns-else-lo-x : goal.returns-else-lo-x
unfolding inside
returns-else-lo-x c = search choices
