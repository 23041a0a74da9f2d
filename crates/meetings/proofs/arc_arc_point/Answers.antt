-- `meetings::arc_arc_point` meets its contract. Assumes nothing.
use mathlib.Core.Path.{refl}
use Rattle.floats.proofs.Choice.{yes, no, told}
use Rattle.meetings.specs.Meetings.{arc_arc_point}
use Rattle.meetings.proofs.Moved.{moved_to}
use Rattle.meetings.proofs.arc_arc_point.Goals as goal

pub returns-then-fuzzy_eq_eps : goal.returns-then-fuzzy_eq_eps
unfolding arc_arc_point
returns-then-fuzzy_eq_eps c =
    let both = moved_to c.moved.ensures
    (yes _ _ _ (told c.fuzzy_eq_eps.ensures c.if-fuzzy_eq_eps.true) refl) in
    record {
      point_value = both.0;
      off_ends = both.1;
    }

pub returns-then-fuzzy_eq_eps-2 : goal.returns-then-fuzzy_eq_eps-2
unfolding arc_arc_point
returns-then-fuzzy_eq_eps-2 c =
    let both = moved_to c.moved-then-fuzzy_eq_eps-2.ensures
    (no _ _ _ (told c.fuzzy_eq_eps.ensures c.if-fuzzy_eq_eps.false)
    (yes _ _ _ (told c.fuzzy_eq_eps-2.ensures c.if-fuzzy_eq_eps-2.true) refl)) in
    record {
      point_value = both.0;
      off_ends = both.1;
    }

pub returns-then-fuzzy_eq_eps-3 : goal.returns-then-fuzzy_eq_eps-3
unfolding arc_arc_point
returns-then-fuzzy_eq_eps-3 c =
    let both = moved_to c.moved-then-fuzzy_eq_eps-3.ensures
    (no _ _ _ (told c.fuzzy_eq_eps.ensures c.if-fuzzy_eq_eps.false)
    (no _ _ _ (told c.fuzzy_eq_eps-2.ensures c.if-fuzzy_eq_eps-2.false)
    (yes _ _ _ (told c.fuzzy_eq_eps-3.ensures c.if-fuzzy_eq_eps-3.true) refl))) in
    record {
      point_value = both.0;
      off_ends = both.1;
    }

pub returns-then-fuzzy_eq_eps-4 : goal.returns-then-fuzzy_eq_eps-4
unfolding arc_arc_point
returns-then-fuzzy_eq_eps-4 c =
    let both = moved_to c.moved-then-fuzzy_eq_eps-4.ensures
    (no _ _ _ (told c.fuzzy_eq_eps.ensures c.if-fuzzy_eq_eps.false)
    (no _ _ _ (told c.fuzzy_eq_eps-2.ensures c.if-fuzzy_eq_eps-2.false)
    (no _ _ _ (told c.fuzzy_eq_eps-3.ensures c.if-fuzzy_eq_eps-3.false)
    (yes _ _ _ (told c.fuzzy_eq_eps-4.ensures c.if-fuzzy_eq_eps-4.true) refl)))) in
    record {
      point_value = both.0;
      off_ends = both.1;
    }

pub returns : goal.returns
unfolding arc_arc_point
returns c =
    let current-start = told c.fuzzy_eq_eps.ensures c.if-fuzzy_eq_eps.false in
    let current-end = told c.fuzzy_eq_eps-2.ensures c.if-fuzzy_eq_eps-2.false in
    let next_start = told c.fuzzy_eq_eps-3.ensures c.if-fuzzy_eq_eps-3.false in
    let next-end = told c.fuzzy_eq_eps-4.ensures c.if-fuzzy_eq_eps-4.false in
    record {
      point_value = no _ _ _ current-start (no _ _ _ current-end (no _ _ _ next_start (no _ _ _ next-end refl)));
      off_ends = λ apart. ((current-start, current-end), (next_start, next-end));
    }
