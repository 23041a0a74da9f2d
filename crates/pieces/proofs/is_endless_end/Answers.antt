-- `pieces::is_endless_end` meets its contract. Assumes nothing.
use mathlib.Core.Path.{refl, ap}
use mathlib.Core.Bool.{not}
use Rattle.floats.proofs.Choice.{yes, no}
use Rattle.pieces.proofs.is_endless_end.Goals as goal

pub returns-then-offset : goal.returns-then-offset
returns-then-offset c = yes _ _ _ c.if-offset.true refl

pub returns : goal.returns
returns c = no _ _ _ c.if-offset.false (ap not c.is_finite.ensures)
