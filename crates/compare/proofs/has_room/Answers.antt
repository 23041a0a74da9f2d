-- `compare::has_room` meets its contract. Assumes nothing.
use mathlib.Core.Path.{refl}
use borrow.Author.Tests.{le-leb, lt-leb}
use Rattle.floats.proofs.Choice.{and_yes, and_no}
use Rattle.compare.specs.Compare.{has_room}
use Rattle.compare.proofs.has_room.Goals as goal

pub returns-then-count-numbers : goal.returns-then-count-numbers
unfolding has_room
returns-then-count-numbers c = and_yes _ _ (le-leb _ _ c.if-count-numbers.true) refl

pub returns-else-count-numbers : goal.returns-else-count-numbers
unfolding has_room
returns-else-count-numbers c = and_no _ _ (lt-leb _ _ c.if-count-numbers.false) (lt-leb _ _ c.if-count-numbers.false)
