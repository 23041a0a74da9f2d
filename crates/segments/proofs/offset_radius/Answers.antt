-- `segments::offset_radius` meets its contract. Assumes nothing.
use Rattle.floats.proofs.Same.{choices}
use Rattle.segments.specs.Segment.{offset_radius}
use Rattle.segments.proofs.offset_radius.Goals as goal

pub returns-then-clockwise : goal.returns-then-clockwise
unfolding offset_radius
returns-then-clockwise c = search choices depth 10 fits 20000

pub returns : goal.returns
unfolding offset_radius
returns c = search choices depth 10 fits 20000
