-- `quarter_turn` meets its contract. Assumes nothing.
use lib.Ieee.{of_bits, round}
use Rattle.floats.proofs.Same.{choices}
use Rattle.angles.specs.Angle.{quarter_turn}
use Rattle.angles.proofs.quarter_turn.Goals as goal

pub returns-then-x : goal.returns-then-x
unfolding quarter_turn of_bits round
returns-then-x c = search choices

pub returns : goal.returns
unfolding quarter_turn of_bits round
returns c = search choices
