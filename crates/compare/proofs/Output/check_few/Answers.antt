-- `compare::Output::check_few` meets its contract. Assumes nothing.
use mathlib.Core.Path.{refl, sym, ◌∙◌}
use Rattle.floats.proofs.Choice.{yes, no}
use Rattle.compare.proofs.Output.check_few.Goals as goal

pub returns-then-is_many : goal.returns-then-is_many
returns-then-is_many c = yes _ _ _ (sym c.is_many.ensures ∙ c.if-is_many.true) refl

pub returns : goal.returns
returns c = no _ _ _ (sym c.is_many.ensures ∙ c.if-is_many.false) refl
