-- `segments::tangent_of` meets its contract. Assumes nothing.
use Rattle.floats.proofs.Choice.{yes, no}
use Rattle.segments.specs.Segment.{tangent}
use Rattle.segments.proofs.tangent_of.Goals as goal

pub returns-then-clockwise : goal.returns-then-clockwise
unfolding tangent
returns-then-clockwise c = yes _ _ _ (cc) (cc)

pub returns : goal.returns
unfolding tangent
returns c = no _ _ _ (cc) (cc)
