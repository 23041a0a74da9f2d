-- `moves::Reason::of_span` meets its contract. Assumes nothing.
use mathlib.Core.Path.{refl}
use Rattle.floats.proofs.Choice.{yes, no, told}
use Rattle.moves.specs.Reason.{span_reason}
use Rattle.moves.proofs.Reason.of_span.Goals as goal

pub returns-then-is_collapsed : goal.returns-then-is_collapsed
unfolding span_reason
returns-then-is_collapsed c = yes _ _ _ (told c.is_collapsed.ensures c.if-is_collapsed.true) refl

pub returns-then-end_param-start_param : goal.returns-then-end_param-start_param
unfolding span_reason
returns-then-end_param-start_param c = no _ _ _ (told c.is_collapsed.ensures c.if-is_collapsed.false) (yes _ _ _ c.if-end_param-start_param.true refl)

pub returns : goal.returns
unfolding span_reason
returns c = no _ _ _ (told c.is_collapsed.ensures c.if-is_collapsed.false) (no _ _ _ c.if-end_param-start_param.false refl)
