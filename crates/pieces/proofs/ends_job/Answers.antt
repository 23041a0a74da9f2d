-- `pieces::ends_job` meets its contract. Assumes nothing.
use mathlib.Core.Path.{refl}
use borrow.Author.Tests.{eq-eqb, ne_eqb}
use Rattle.floats.proofs.Choice.{or_yes, or_no}
use Rattle.pieces.proofs.ends_job.Goals as goal

pub returns-then-number-eq2 : goal.returns-then-number-eq2
returns-then-number-eq2 c = let e = eq-eqb _ _ c.if-number-eq2.true in or_yes _ _ e e

pub returns-then-number-eq3 : goal.returns-then-number-eq3
returns-then-number-eq3 c = let e = eq-eqb _ _ c.if-number-eq3.true in or_no _ _ (ne_eqb _ _ c.if-number-eq2.false) (or_yes _ _ e e)

pub returns-then-number-eq5 : goal.returns-then-number-eq5
returns-then-number-eq5 c = let e = eq-eqb _ _ c.if-number-eq5.true in or_no _ _ (ne_eqb _ _ c.if-number-eq2.false) (or_no _ _ (ne_eqb _ _ c.if-number-eq3.false) (or_yes _ _ e e))

pub returns-else-number-eq5 : goal.returns-else-number-eq5
returns-else-number-eq5 c = or_no _ _ (ne_eqb _ _ c.if-number-eq2.false) (or_no _ _ (ne_eqb _ _ c.if-number-eq3.false) (or_no _ _ (ne_eqb _ _ c.if-number-eq5.false) refl))
