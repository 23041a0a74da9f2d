-- `intersections::are_apart` meets its contract. Assumes nothing.
use mathlib.Core.Path.{refl}
use Rattle.floats.proofs.Choice.{or_yes, or_no}
use Rattle.intersections.proofs.are_apart.Goals as goal

pub returns-then-d-radius1 : goal.returns-then-d-radius1
returns-then-d-radius1 c = or_yes _ _ c.if-d-radius1.true c.if-d-radius1.true

pub returns-else-d-radius1 : goal.returns-else-d-radius1
returns-else-d-radius1 c = rw (← c.abs.ensures) (or_no _ _ c.if-d-radius1.false refl)
