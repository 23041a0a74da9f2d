-- `decimal` meets its contract. Assumes nothing.
use native.Mathlib.Omega.{arith}
use Rattle.packed.proofs.Digits.{decimal, decimal_short}
use Rattle.packed.proofs.text.Text.decimal.Goals as goal

pub word-requires : goal.word-requires
word-requires c =
    let d = c.decimal-n in
    omega (arith, decimal_short c.args.number d.result (omega arith) d.ensures.len, d.ensures.in_bounds.1)

pub returns : goal.returns
returns c =
    let d = c.decimal-n in
    rw (← decimal c.args.number d.result (omega arith) d.ensures.len, ← d.ensures.digits) c.word.ensures
