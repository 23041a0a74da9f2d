-- `refusals::repeats` meets its contract. Assumes nothing.
use Rattle.floats.proofs.Same.{choices}
use Rattle.refusals.specs.Limits.{repeats}
use Rattle.refusals.proofs.repeats.Goals as goal

pub returns-then-a-b : goal.returns-then-a-b
unfolding repeats
returns-then-a-b c = search choices

pub returns-else-a-b : goal.returns-else-a-b
unfolding repeats
returns-else-a-b c = search choices
