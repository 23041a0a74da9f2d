-- `course::Course::ending` meets its contract. Assumes nothing.
use Rattle.course.proofs.Strokes.{just_ending_lem}
use Rattle.course.proofs.Course.ending.Goals as goal

pub returns : goal.returns
returns c = (just_ending_lem _ c.undrawn-span.ensures.0, c.undrawn-span.ensures.1)
