-- `why::Look::answer_with` meets its contract. Assumes nothing.
use mathlib.Core.Path.{refl, ap}
use borrow.Author.Tests.{eq-eqb, ne_eqb}
use Rattle.std.specs.Prelude.{Ok}
use Rattle.floats.proofs.Choice.{yes, no}
use Rattle.why.specs.InnerSteps.{told_if}
use Rattle.why.proofs.Look.answer_with.Goals as goal

pub returns-then-stroke-self : goal.returns-then-stroke-self
unfolding told_if
returns-then-stroke-self c = yes _ _ _ (eq-eqb _ _ c.if-stroke-self.true) (ap Ok c.of.ensures)

pub returns : goal.returns
unfolding told_if
returns c = no _ _ _ (ne_eqb _ _ c.if-stroke-self.false) refl
