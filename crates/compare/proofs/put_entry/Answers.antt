-- `compare::put_entry` meets its contract. Assumes nothing.
use mathlib.Core.Path.{sym, ap, ◌∙◌}
use native.Mathlib.Omega.{arith}
use lib.ListN.{length}
use Rattle.compare.proofs.Entries.{one_entry, put-none, put_one}
use Rattle.compare.proofs.put_entry.Goals as goal

pub returns-then-not-any : goal.returns-then-not-any
returns-then-not-any c =
    let both = put-none c.args.k c.args.differing c.args.at c.args.numbers.now c.args.fields.now (sym c.any.ensures ∙ c.if-not-any.true) in
    record {
      value = both.0;
      numbers_after = both.1.0;
      fields_after = both.1.1;
    }

pub bounds-numbers-at : goal.bounds-numbers-at
bounds-numbers-at c =
    let one = ap length (one_entry c.args.k c.args.differing (sym c.any.ensures ∙ c.if-not-any.false)) in
    omega arith

pub bounds-fields-at : goal.bounds-fields-at
bounds-fields-at c =
    let one = ap length (one_entry c.args.k c.args.differing (sym c.any.ensures ∙ c.if-not-any.false)) in
    omega arith

pub returns : goal.returns
returns c =
    let both = put_one c.args.k c.args.differing c.args.at c.args.numbers.now c.args.fields.now (sym c.any.ensures ∙ c.if-not-any.false)
    c.code.result c.code.ensures in
    record {
      value = both.0;
      numbers_after = both.1.0;
      fields_after = both.1.1;
    }
