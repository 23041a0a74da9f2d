-- `segments_before` meets its contract. Assumes nothing.
use mathlib.Core.Path.{refl}
use native.Mathlib.Omega.{arith}
use Rattle.floats.proofs.Choice.{yes, no}
use Rattle.pen_reply.specs.Pen.{segments_before}
use Rattle.pen_reply.proofs.segments_before.Goals as goal

pub returns-then-course-eq0 : goal.returns-then-course-eq0
unfolding segments_before
returns-then-course-eq0 c = yes _ _ _ c.if-job.true (omega arith)

pub returns-then-job : goal.returns-then-job
unfolding segments_before
returns-then-job c = yes _ _ _ c.if-job.true refl

pub returns : goal.returns
unfolding segments_before
returns c = no _ _ _ c.if-job.false refl
