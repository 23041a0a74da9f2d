-- `meetings::traveled_to` meets its contract. Assumes nothing.
use Rattle.floats.proofs.Choice.{yes, no}
use Rattle.meetings.specs.Params.{traveled}
use Rattle.meetings.proofs.traveled_to.Goals as goal

pub returns-then-arc : goal.returns-then-arc
unfolding traveled
returns-then-arc c = rw (← c.requires) (yes _ _ _ c.if-arc.true c.normalize_radians.ensures)

pub returns : goal.returns
unfolding traveled
returns c = rw (← c.requires) (no _ _ _ c.if-arc.false c.normalize_radians-2.ensures)
