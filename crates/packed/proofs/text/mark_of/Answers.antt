-- `mark_of` meets its contract. Assumes nothing.
use mathlib.Core.Path.{refl}
use borrow.Author.Tests.{eq-eqb, ne_eqb}
use Rattle.floats.proofs.Choice.{yes, no}
use Rattle.packed.specs.Text.{mark_of}
use Rattle.packed.proofs.text.mark_of.Goals as goal

pub returns-then-last : goal.returns-then-last
unfolding mark_of
returns-then-last c = yes _ _ _ c.if-last.true refl

pub returns-then-flag-eq1 : goal.returns-then-flag-eq1
unfolding mark_of
returns-then-flag-eq1 c = no _ _ _ c.if-last.false (yes _ _ _ (eq-eqb _ _ c.if-flag-eq1.true) refl)

pub returns : goal.returns
unfolding mark_of
returns c = no _ _ _ c.if-last.false (no _ _ _ (ne_eqb _ _ c.if-flag-eq1.false) refl)
