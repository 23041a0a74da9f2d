-- `meetings::snapped_param` meets its contract. Assumes nothing.
use mathlib.Core.Path.{refl}
use Rattle.floats.proofs.Choice.{yes, no, told}
use Rattle.meetings.specs.Params.{snapped_param}
use Rattle.meetings.proofs.snapped_param.Goals as goal

pub returns-then-is_far_past : goal.returns-then-is_far_past
unfolding snapped_param
returns-then-is_far_past c = yes _ _ _ (told c.is_far_past.ensures c.if-is_far_past.true) refl

pub returns : goal.returns
unfolding snapped_param
returns c = no _ _ _ (told c.is_far_past.ensures c.if-is_far_past.false) refl
