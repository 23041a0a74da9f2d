-- `part::Bounds::from_on` meets its contract. Assumes nothing.
use mathlib.Core.Path.{refl}
use borrow.Author.Tests.{eq-eqb, ne_eqb}
use Rattle.floats.proofs.Choice.{yes, no}
use Rattle.part.proofs.Bounds.from_on.Goals as goal

pub returns-then-count-eq0 : goal.returns-then-count-eq0
returns-then-count-eq0 c = yes _ _ _ (eq-eqb _ _ c.if-count-eq0.true) c.empty.ensures

pub returns : goal.returns
returns c = no _ _ _ (ne_eqb _ _ c.if-count-eq0.false) refl
