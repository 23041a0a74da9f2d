-- `tan` meets its contract. Assumes nothing.
use Rattle.angles.specs.Angle.{tan_of}
use Rattle.angles.proofs.tan.Goals as goal

pub returns : goal.returns
unfolding tan_of
returns c = simp (c.tan_by_eighth.ensures, c.tan_eighth.ensures)
