-- `segments::CarriedSeg::span_is_invalid` meets its contract. Assumes nothing.
use Rattle.floats.proofs.Choice.{branches}
use Rattle.segments.proofs.CarriedSeg.span_is_invalid.Goals as goal

pub returns-then-is_collapsed : goal.returns-then-is_collapsed
returns-then-is_collapsed c = search branches

pub returns-else-is_collapsed : goal.returns-else-is_collapsed
returns-else-is_collapsed c = search branches
