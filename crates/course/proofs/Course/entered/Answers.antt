-- `course::Course::entered` meets its contract. Assumes nothing.
use Rattle.course.specs.Course.{entered}
use Rattle.course.proofs.Course.entered.Goals as goal

pub returns : goal.returns
unfolding entered
returns c = rw (c.start.ensures, c.anew-segment.ensures.full)
