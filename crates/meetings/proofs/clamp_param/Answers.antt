-- `meetings::clamp_param` meets its contract. Assumes nothing.
use mathlib.Core.Path.{refl}
use Rattle.floats.proofs.Choice.{yes, no}
use Rattle.meetings.specs.Meetings.{clamp_param}
use Rattle.meetings.proofs.clamp_param.Goals as goal

pub returns-then-param : goal.returns-then-param
unfolding clamp_param
returns-then-param c = yes _ _ _ c.if-param.true refl

pub returns-then-param-2 : goal.returns-then-param-2
unfolding clamp_param
returns-then-param-2 c = no _ _ _ c.if-param.false (yes _ _ _ c.if-param-2.true refl)

pub returns : goal.returns
unfolding clamp_param
returns c = no _ _ _ c.if-param.false (no _ _ _ c.if-param-2.false refl)
