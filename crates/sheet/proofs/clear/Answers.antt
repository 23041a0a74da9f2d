-- `sheet::clear` meets its contract. Assumes nothing.
use mathlib.Core.Path.{◌≡◌, sym}
use Prim.Native.Nat.{◌-◌}
use native.Mathlib.Omega.{arith}
use lib.ListN.{length, take, drop, length-drop}
use lib.Seq.{length-take-le}
use native.Mathlib.Nat.{zero-add}
use Rattle.sheet.proofs.Writing.{writing_none, clearing_turn, clearing_done, cleared_part}
use Rattle.sheet.proofs.clear.Goals as goal

pub loop-place-init : goal.loop-place-init
loop-place-init g c = writing_none

pub loop-place-preserved : goal.loop-place-preserved
loop-place-preserved g c = rw zero-add at (clearing_turn _ c.loop-place.invariant c.loop-place-test.true (omega arith))

pub returns : goal.returns
returns g c =
    let n : length (take (c.args.end - c.args.from) (drop c.args.from c.args.list.now)) ≡ c.args.end - c.args.from = omega (arith, c.requires.0, c.requires.1, length-take-le (c.args.end - c.args.from) (drop c.args.from c.args.list.now) (omega (arith, length-drop c.args.from c.args.list.now, c.requires.1))) in
    cleared_part _ _ _ _ _ _ (rw n at (clearing_done _ c.loop-place.invariant c.loop-place-test.false)) (sym n)
