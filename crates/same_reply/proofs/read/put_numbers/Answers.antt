-- `read::put_numbers` meets its contract. Assumes nothing.
use mathlib.Core.Path.{◌≡◌}
use Prim.Native.Nat.{suc, ◌+◌}
use native.Mathlib.Numerals.{add-one}
use native.Mathlib.Omega.{arith}
use lib.ListN.{length-set}
use Rattle.same_reply.proofs.read.put_numbers.Goals as goal

pub bounds-numbers-at-2 : goal.bounds-numbers-at-2
bounds-numbers-at-2 c = simp length-set (omega arith)

pub bounds-numbers-at-3 : goal.bounds-numbers-at-3
bounds-numbers-at-3 c = simp length-set (omega arith)

pub returns : goal.returns
returns c =
    let at = c.args.at in
    let two : at + 2 ≡ suc (suc at) = omega arith in
    rw (add-one, two, c.double_at.ensures, c.double_at-2.ensures, c.double_at-3.ensures)
