-- The job's source has as many numbers as were asked for, or all. Assumes nothing.
use mathlib.Core.Path.{sym}
use native.Mathlib.Omega.{arith}
use lib.Seq.{length-take-le}
use Rattle.why_main.proofs.tell_job.Goals as goal

pub slice_bounds-tell_each-end : goal.slice_bounds-tell_each-end
slice_bounds-tell_each-end c = sym (length-take-le _ _ (omega arith))

pub slice_bounds-tell-end : goal.slice_bounds-tell-end
slice_bounds-tell-end c = sym (length-take-le _ _ (omega arith))
