-- `bulge_from_angle` meets its contract. Assumes nothing.
use Rattle.angles.specs.Angle.{bulge_of}
use Rattle.angles.proofs.bulge_from_angle.Goals as goal

pub returns : goal.returns
unfolding bulge_of
returns c = cc
