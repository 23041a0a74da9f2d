-- `compare::Output::check_even` meets its contract. Assumes nothing.
use mathlib.Core.Path.{refl, sym, ap, ◌∙◌}
use mathlib.Core.Bool.{not}
use Rattle.floats.proofs.Choice.{yes, no}
use Rattle.compare.proofs.Output.check_even.Goals as goal

pub returns-then-not-is_even : goal.returns-then-not-is_even
returns-then-not-is_even c = yes _ _ _ (ap not (sym c.is_even.ensures ∙ c.if-not-is_even.true)) refl

pub returns : goal.returns
returns c = no _ _ _ (ap not (sym c.is_even.ensures ∙ c.if-not-is_even.false)) refl
