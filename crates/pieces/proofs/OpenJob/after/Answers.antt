-- `pieces::OpenJob::after` meets its contract. Assumes nothing.
use mathlib.Core.Path.{refl}
use borrow.Author.Tests.{eq-eqb, ne_eqb}
use Rattle.floats.proofs.Choice.{yes, no}
use Rattle.pieces.specs.InnerSteps.{taken_answer, taken_job}
use Rattle.pieces.proofs.OpenJob.after.Goals as goal

pub returns-then-taken-eq0 : goal.returns-then-taken-eq0
unfolding taken_answer taken_job
returns-then-taken-eq0 c = let t = eq-eqb _ _ c.if-taken-eq0.true in (yes _ _ _ t refl, yes _ _ _ t c.staged.ensures)

pub returns : goal.returns
unfolding taken_answer taken_job
returns c = let t = ne_eqb _ _ c.if-taken-eq0.false in (no _ _ _ t refl, no _ _ _ t c.staged-2.ensures)
