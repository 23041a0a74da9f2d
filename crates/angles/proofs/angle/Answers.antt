-- `angle` meets its contract. Assumes nothing.
use Rattle.angles.specs.Angle.{angle_of}
use Rattle.angles.proofs.angle.Goals as goal

pub returns : goal.returns
unfolding angle_of
returns c = cc
