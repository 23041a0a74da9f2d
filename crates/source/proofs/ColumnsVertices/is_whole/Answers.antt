-- `Columns::is_whole` meets its contract. Assumes nothing.
use mathlib.Core.Path.{refl}
use borrow.Author.Tests.{eq-eqb, ne_eqb}
use Rattle.floats.proofs.Choice.{and_yes, and_no}
use Rattle.source.proofs.ColumnsVertices.is_whole.Goals as goal

pub returns-then-self : goal.returns-then-self
returns-then-self c = and_yes _ _ (eq-eqb _ _ c.if-self.true) refl

pub returns-else-self : goal.returns-else-self
returns-else-self c = and_no _ _ (ne_eqb _ _ c.if-self.false) (ne_eqb _ _ c.if-self.false)
