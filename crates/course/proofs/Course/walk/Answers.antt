-- `course::Course::walk` meets its contract. Assumes nothing.
use Rattle.joins.proofs.Seen.{seg_unseen}
use Rattle.course.specs.InnerSteps.{stood_in}
use Rattle.course.proofs.Course.walk.Goals as goal

pub returns : goal.returns
unfolding stood_in
returns c =
    let anew = c.anew in (
      simp (c.pen.ensures, c.entry.ensures, anew.ensures.full),
      record { marked = anew.ensures.marked; seen = rw c.not_seen.ensures (seg_unseen anew.result) },
    )
