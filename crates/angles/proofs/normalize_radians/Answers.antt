-- `normalize_radians` meets its contract. Assumes nothing.
use lib.Ieee.{of_bits, round}
use Rattle.floats.proofs.Same.{choices}
use Rattle.angles.specs.Angle.{normalized_angle}
use Rattle.angles.proofs.normalize_radians.Goals as goal

pub returns-then-angle : goal.returns-then-angle
unfolding normalized_angle of_bits round
returns-then-angle c = search choices

pub returns : goal.returns
unfolding normalized_angle of_bits round
returns c = search choices
