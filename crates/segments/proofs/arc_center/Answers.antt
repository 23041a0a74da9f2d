-- `segments::arc_center` meets its contract. Assumes nothing.
use Rattle.floats.proofs.Choice.{yes, no}
use Rattle.segments.specs.Vertex.{arc_center}
use Rattle.segments.proofs.arc_center.Goals as goal

pub returns-then-negative : goal.returns-then-negative
unfolding arc_center
returns-then-negative c = yes _ _ _ c.if-negative.true (cc)

pub returns : goal.returns
unfolding arc_center
returns c = no _ _ _ c.if-negative.false (cc)
