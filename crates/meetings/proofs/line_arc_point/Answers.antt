-- `meetings::line_arc_point` meets its contract. Assumes nothing.
use mathlib.Core.Path.{refl}
use Rattle.floats.proofs.Choice.{yes, no, told}
use Rattle.meetings.specs.Meetings.{line_arc_point}
use Rattle.meetings.proofs.Moved.{moved_to}
use Rattle.meetings.proofs.line_arc_point.Goals as goal

pub returns-then-t : goal.returns-then-t
unfolding line_arc_point
returns-then-t c =
    let both = moved_to c.moved.ensures
    (yes _ _ _ c.if-t.true refl) in
    record {
      point_value = both.0;
      off_ends = both.1;
    }

pub returns-then-t-2 : goal.returns-then-t-2
unfolding line_arc_point
returns-then-t-2 c =
    let both = moved_to c.moved-then-t-2.ensures
    (no _ _ _ c.if-t.false
    (yes _ _ _ c.if-t-2.true refl)) in
    record {
      point_value = both.0;
      off_ends = both.1;
    }

pub returns-then-fuzzy_eq_eps : goal.returns-then-fuzzy_eq_eps
unfolding line_arc_point
returns-then-fuzzy_eq_eps c =
    let both = moved_to c.moved-then-fuzzy_eq_eps.ensures
    (no _ _ _ c.if-t.false
    (no _ _ _ c.if-t-2.false
    (yes _ _ _ (told c.fuzzy_eq_eps.ensures c.if-fuzzy_eq_eps.true) refl))) in
    record {
      point_value = both.0;
      off_ends = both.1;
    }

pub returns-then-fuzzy_eq_eps-2 : goal.returns-then-fuzzy_eq_eps-2
unfolding line_arc_point
returns-then-fuzzy_eq_eps-2 c =
    let both = moved_to c.moved-then-fuzzy_eq_eps-2.ensures
    (no _ _ _ c.if-t.false
    (no _ _ _ c.if-t-2.false
    (no _ _ _ (told c.fuzzy_eq_eps.ensures c.if-fuzzy_eq_eps.false)
    (yes _ _ _ (told c.fuzzy_eq_eps-2.ensures c.if-fuzzy_eq_eps-2.true) refl)))) in
    record {
      point_value = both.0;
      off_ends = both.1;
    }

pub returns : goal.returns
unfolding line_arc_point
returns c =
    let start = told c.fuzzy_eq_eps.ensures c.if-fuzzy_eq_eps.false in
    let end = told c.fuzzy_eq_eps-2.ensures c.if-fuzzy_eq_eps-2.false in
    record {
      point_value = no _ _ _ c.if-t.false (no _ _ _ c.if-t-2.false (no _ _ _ start (no _ _ _ end refl)));
      off_ends = λ apart. (start, end);
    }
