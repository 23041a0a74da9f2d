-- `segments::chord_length` meets its contract. Assumes nothing.
use Rattle.segments.specs.InnerSteps.{chord_of}
use Rattle.segments.proofs.chord_length.Goals as goal

pub returns : goal.returns
unfolding chord_of
returns c = cc
