-- `pieces::OpenJob::is_open` meets its contract. Assumes nothing.
use borrow.Author.Tests.{eq-eqb, ne_eqb, le-leb, lt-leb}
use Rattle.floats.proofs.Choice.{and_yes, and_no}
use Rattle.pieces.specs.Calls.{is_open}
use Rattle.pieces.proofs.OpenJob.is_open.Goals as goal

pub has_few-requires : goal.has_few-requires
has_few-requires c = c.if-course-le-MOST_VERTICES.true

pub returns-then-course-le-MOST_VERTICES : goal.returns-then-course-le-MOST_VERTICES
unfolding is_open
returns-then-course-le-MOST_VERTICES c =
    and_yes _ _ (eq-eqb _ _ c.if-self-eq-DRAWING.true) (and_yes _ _ (le-leb _ _ c.if-self-le1.true) (and_yes _ _ (eq-eqb _ _ c.if-self-eq0.true) (and_yes _ _ (eq-eqb _ _ c.if-self-eq0-2.true) (and_yes _ _ (le-leb _ _ c.if-course-le-MOST_VERTICES.true) c.has_few.ensures))))

pub returns-else-course-le-MOST_VERTICES : goal.returns-else-course-le-MOST_VERTICES
unfolding is_open
returns-else-course-le-MOST_VERTICES c =
    let e = lt-leb _ _ c.if-course-le-MOST_VERTICES.false in
    and_yes _ _ (eq-eqb _ _ c.if-self-eq-DRAWING.true) (and_yes _ _ (le-leb _ _ c.if-self-le1.true) (and_yes _ _ (eq-eqb _ _ c.if-self-eq0.true) (and_yes _ _ (eq-eqb _ _ c.if-self-eq0-2.true) (and_no _ _ e e))))

pub returns-else-self-eq0-2 : goal.returns-else-self-eq0-2
unfolding is_open
returns-else-self-eq0-2 c =
    let e = ne_eqb _ _ c.if-self-eq0-2.false in
    and_yes _ _ (eq-eqb _ _ c.if-self-eq-DRAWING.true) (and_yes _ _ (le-leb _ _ c.if-self-le1.true) (and_yes _ _ (eq-eqb _ _ c.if-self-eq0.true) (and_no _ _ e e)))

pub returns-else-self-eq0 : goal.returns-else-self-eq0
unfolding is_open
returns-else-self-eq0 c = let e = ne_eqb _ _ c.if-self-eq0.false in and_yes _ _ (eq-eqb _ _ c.if-self-eq-DRAWING.true) (and_yes _ _ (le-leb _ _ c.if-self-le1.true) (and_no _ _ e e))

pub returns-else-self-le1 : goal.returns-else-self-le1
unfolding is_open
returns-else-self-le1 c = let e = lt-leb _ _ c.if-self-le1.false in and_yes _ _ (eq-eqb _ _ c.if-self-eq-DRAWING.true) (and_no _ _ e e)

pub returns-else-self-eq-DRAWING : goal.returns-else-self-eq-DRAWING
unfolding is_open
returns-else-self-eq-DRAWING c = let e = ne_eqb _ _ c.if-self-eq-DRAWING.false in and_no _ _ e e
