-- `Marks::put` meets its contract. Assumes nothing.
use mathlib.Core.Path.{refl}
use Rattle.floats.proofs.Choice.{yes, no}
use Rattle.sheet.proofs.Origins.{origin-stored}
use Rattle.sheet.proofs.lent.Marks.put.Goals as goal

pub returns-then-invalid-clause-indexes : goal.returns-then-invalid-clause-indexes
returns-then-invalid-clause-indexes c = yes _ _ _ c.if-invalid.true refl

pub returns-then-invalid-clause-origins : goal.returns-then-invalid-clause-origins
returns-then-invalid-clause-origins c = origin-stored _ _ _ c.code.ensures

pub returns-clause-indexes : goal.returns-clause-indexes
returns-clause-indexes c = no _ _ _ c.if-invalid.false refl

pub returns-clause-origins : goal.returns-clause-origins
returns-clause-origins c = origin-stored _ _ _ c.code.ensures
