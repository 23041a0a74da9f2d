-- `meetings::usable_line_param` meets its contract. Assumes nothing.
use mathlib.Core.Path.{refl}
use Rattle.floats.proofs.Choice.{yes, no}
use Rattle.meetings.specs.Params.{usable_line_param}
use Rattle.meetings.proofs.usable_line_param.Goals as goal

pub returns-then-param : goal.returns-then-param
unfolding usable_line_param
returns-then-param c = yes _ _ _ c.if-param.true c.snapped_param.ensures

pub returns-then-param-2 : goal.returns-then-param-2
unfolding usable_line_param
returns-then-param-2 c = no _ _ _ c.if-param.false (yes _ _ _ c.if-param-2.true c.snapped_param-then-param-2.ensures)

pub returns : goal.returns
unfolding usable_line_param
returns c = no _ _ _ c.if-param.false (no _ _ _ c.if-param-2.false refl)
