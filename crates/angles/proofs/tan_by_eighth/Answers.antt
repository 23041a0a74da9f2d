-- `tan_by_eighth` meets its contract. Assumes nothing.
use Rattle.angles.specs.Angle.{tan_by_eighth}
use Rattle.angles.proofs.tan_by_eighth.Goals as goal

pub returns : goal.returns
unfolding tan_by_eighth
returns c = simp (c.tan_step-3.ensures, c.tan_step-2.ensures, c.tan_step.ensures)
