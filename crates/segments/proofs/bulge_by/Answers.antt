-- `segments::bulge_by` meets its contract. Assumes nothing.
use mathlib.Core.Path.{refl}
use Rattle.floats.proofs.Choice.{yes, no}
use Rattle.segments.specs.InnerSteps.{bulge_by}
use Rattle.segments.proofs.bulge_by.Goals as goal

pub returns-then-curved : goal.returns-then-curved
unfolding bulge_by
returns-then-curved c = yes _ _ _ c.if-curved.true c.bulge_from_angle.ensures

pub returns : goal.returns
unfolding bulge_by
returns c = no _ _ _ c.if-curved.false refl
