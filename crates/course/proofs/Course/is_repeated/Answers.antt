-- `course::Course::is_repeated` meets its contract. Assumes nothing.
use borrow.Author.Tests.{lt-ltb, le-ltb}
use Rattle.floats.proofs.Choice.{and_yes, and_no}
use Rattle.course.proofs.Course.is_repeated.Goals as goal

pub returns-then-self-gt0 : goal.returns-then-self-gt0
returns-then-self-gt0 c = and_yes _ _ (lt-ltb _ _ c.if-self-gt0.true) c.repeats.ensures

pub returns-else-self-gt0 : goal.returns-else-self-gt0
returns-else-self-gt0 c = let e = le-ltb _ _ c.if-self-gt0.false in and_no _ _ e e
