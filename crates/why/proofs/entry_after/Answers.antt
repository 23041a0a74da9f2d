-- `why::entry_after` meets its contract. Assumes nothing.
use mathlib.Core.Path.{refl}
use borrow.Author.Tests.{eq-eqb, ne_eqb}
use Rattle.floats.proofs.Choice.{yes, no}
use Rattle.why.specs.InnerSteps.{entry_after}
use Rattle.why.proofs.entry_after.Goals as goal

pub returns-then-closed : goal.returns-then-closed
unfolding entry_after
returns-then-closed c = yes _ _ _ c.if-closed.true refl

pub returns-then-leading-eq1 : goal.returns-then-leading-eq1
unfolding entry_after
returns-then-leading-eq1 c = no _ _ _ c.if-closed.false (yes _ _ _ (eq-eqb _ _ c.if-leading-eq1.true) refl)

pub returns : goal.returns
unfolding entry_after
returns c = no _ _ _ c.if-closed.false (no _ _ _ (ne_eqb _ _ c.if-leading-eq1.false) refl)
