-- `moves::Pen::after` meets its contract. Assumes nothing.
use mathlib.Core.Path.{refl}
use Rattle.floats.proofs.Choice.{yes, no}
use Rattle.moves.specs.InnerSteps.{pen_after}
use Rattle.moves.proofs.Pen.after.Goals as goal

pub returns-then-dropped : goal.returns-then-dropped
returns-then-dropped c = yes _ _ _ c.if-dropped.true refl

pub returns : goal.returns
unfolding pen_after
returns c = no _ _ _ c.if-dropped.false refl
