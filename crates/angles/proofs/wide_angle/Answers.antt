-- `wide_angle` meets its contract. Assumes nothing.
use lib.Ieee.{of_bits, round}
use Rattle.floats.proofs.Same.{choices}
use Rattle.angles.specs.Angle.{wide_angle}
use Rattle.angles.proofs.wide_angle.Goals as goal

pub returns-then-y : goal.returns-then-y
unfolding wide_angle of_bits round
returns-then-y c = search choices

pub returns-then-x : goal.returns-then-x
unfolding wide_angle of_bits round
returns-then-x c = search choices

pub returns : goal.returns
unfolding wide_angle of_bits round
returns c = search choices
