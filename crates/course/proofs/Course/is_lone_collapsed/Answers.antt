-- `course::Course::is_lone_collapsed` meets its contract. Assumes nothing.
use mathlib.Core.Path.{◌∙◌}
use Rattle.course.proofs.Course.is_lone_collapsed.Goals as goal

pub returns : goal.returns
returns c = c.both.ensures ∙ rw (c.is_collapsed.ensures, c.anew-segment.ensures.full)
