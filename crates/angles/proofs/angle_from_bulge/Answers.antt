-- `angle_from_bulge` meets its contract. Assumes nothing.
use Rattle.angles.specs.Angle.{sweep_of}
use Rattle.angles.proofs.angle_from_bulge.Goals as goal

pub returns : goal.returns
unfolding sweep_of
returns c = simp c.atan.ensures
