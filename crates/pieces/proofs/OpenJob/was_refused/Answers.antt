-- `pieces::OpenJob::was_refused` meets its contract. Assumes nothing.
use borrow.Author.Tests.{eq-eqb, ne_eqb, le-leb, lt-leb}
use Rattle.floats.proofs.Choice.{and_yes, and_no}
use Rattle.pieces.specs.Calls.{was_refused}
use Rattle.pieces.proofs.OpenJob.was_refused.Goals as goal

pub returns-then-self-le-MOST_VERTICES : goal.returns-then-self-le-MOST_VERTICES
unfolding was_refused
returns-then-self-le-MOST_VERTICES c = and_yes _ _ (eq-eqb _ _ c.if-self-eq-REFUSED.true) (and_yes _ _ (le-leb _ _ c.if-self-le-MOST_VERTICES.true) c.ends_job.ensures)

pub returns-else-self-le-MOST_VERTICES : goal.returns-else-self-le-MOST_VERTICES
unfolding was_refused
returns-else-self-le-MOST_VERTICES c = let e = lt-leb _ _ c.if-self-le-MOST_VERTICES.false in and_yes _ _ (eq-eqb _ _ c.if-self-eq-REFUSED.true) (and_no _ _ e e)

pub returns-else-self-eq-REFUSED : goal.returns-else-self-eq-REFUSED
unfolding was_refused
returns-else-self-eq-REFUSED c = let e = ne_eqb _ _ c.if-self-eq-REFUSED.false in and_no _ _ e e
