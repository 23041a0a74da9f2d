-- `compare::list` meets its contract. Assumes nothing.
use mathlib.Core.Path.{sym, ap, ◌∙◌}
use native.Mathlib.Omega.{arith}
use lib.ListN.{length}
use Rattle.compare.specs.Compare.{Output, points_of, unmatched, marks_differ, entries_to}
use Rattle.compare.proofs.Answers.{fits, list-is, no_room, listed}
use Rattle.compare.proofs.Told.{marks-unequal}
use Rattle.compare.proofs.list.Goals as goal

pub returns-then-not-has_room : goal.returns-then-not-has_room
returns-then-not-has_room c =
    let a = c.args.a.now in
    let b = c.args.b.now in
    no_room a b c.args.numbers.now c.args.fields.now (c.count_entries-count.ensures.value ∙ ap length (list-is a b (rw (c.min-most.ensures, c.vertices-v.ensures, c.vertices-w.ensures))))
    (sym c.has_room.ensures ∙ c.if-not-has_room.true)

pub put_entries-requires : goal.put_entries-requires
put_entries-requires c =
    let room = fits _ _ _ (sym c.has_room.ensures ∙ c.if-not-has_room.false) in
    let n = c.count_entries-count.ensures.value in
    record {
      most_in_bounds = (omega arith, omega arith, omega arith);
      most_in_bounds_2 = omega arith;
      most_in_bounds_3 = omega arith;
    }

pub returns : goal.returns
unfolding unmatched
returns c =
    let a = c.args.a.now in
    let b = c.args.b.now in
    let put = c.put_entries in
    listed a b c.args.numbers.now c.args.fields.now (entries_to (points_of a) a.flags (points_of b) b.flags c.min-most.result)
    (list-is a b (rw (c.min-most.ensures, c.vertices-v.ensures, c.vertices-w.ensures))) c.count_entries-count.ensures.value (sym c.has_room.ensures ∙ c.if-not-has_room.false)
    (rw (c.abs_diff.ensures, c.vertices-v.ensures, c.vertices-w.ensures))
    (marks-unequal _ _ ∙ ap (λ (o : Output). marks_differ o.closed c.b.inside.closed) c.a.view_is ∙ ap (λ (o : Output). marks_differ a.closed o.closed) c.b.view_is)
    put.ensures.numbers_after put.ensures.fields_after
