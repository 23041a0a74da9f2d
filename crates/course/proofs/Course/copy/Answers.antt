-- `course::Course::copy` meets its contract. Assumes nothing.
use mathlib.Core.Path.{refl}
use native.Mathlib.Omega.{arith}
use borrow.Author.Tests.{eq-eqb, ne_eqb}
use Rattle.floats.proofs.Choice.{yes, no}
use Rattle.course.specs.InnerSteps.{copy_strokes}
use Rattle.course.proofs.Strokes.{drawn-yes}
use Rattle.course.proofs.Course.copy.Goals as goal

pub returns-then-self-eq0 : goal.returns-then-self-eq0
unfolding copy_strokes
returns-then-self-eq0 c = (yes _ _ _ (eq-eqb _ _ c.if-self-eq0.true) c.undrawn.ensures.0, c.undrawn.ensures.1)

pub returns : goal.returns
unfolding copy_strokes
returns c = (no _ _ _ (ne_eqb _ _ c.if-self-eq0.false) (drawn-yes _ refl), omega (arith, c.requires))
