-- `meetings::swept_param` meets its contract. Assumes nothing.
use mathlib.Core.Path.{refl}
use Rattle.floats.proofs.Choice.{yes, no}
use Rattle.meetings.specs.Params.{swept_param}
use Rattle.meetings.proofs.swept_param.Goals as goal

pub returns-then-arc-traveled : goal.returns-then-arc-traveled
unfolding swept_param
returns-then-arc-traveled c = rw (← c.abs-sweep.ensures) (yes _ _ _ c.if-traveled-sweep.true (yes _ _ _ c.if-arc-traveled.true refl))

pub returns-then-traveled-sweep : goal.returns-then-traveled-sweep
unfolding swept_param
returns-then-traveled-sweep c = rw (← c.abs-sweep.ensures) (yes _ _ _ c.if-traveled-sweep.true (no _ _ _ c.if-arc-traveled.false refl))

pub returns : goal.returns
unfolding swept_param
returns c = rw (← c.abs-sweep.ensures) (no _ _ _ c.if-traveled-sweep.false refl)
