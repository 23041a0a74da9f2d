-- `put_differences` meets its contract. Assumes nothing.
use Prim.Native.Nat.{◌+◌, ◌*◌}
use native.Mathlib.Omega.{arith}
use Rattle.packed.proofs.Digits.{most_decimal}
use Rattle.packed.proofs.Lines.{most_three}
use Rattle.packed.proofs.Writing.{room_left, writes_more}
use Rattle.same_reply.specs.Same.{differences_text}
use Rattle.same_reply.proofs.text.put_differences.Goals as goal

pub decimal-requires : goal.decimal-requires
decimal-requires c = room_left c.three.ensures 63 21 (most_three _ _ _) (omega arith)

pub put_entries-requires-clause-room : goal.put_entries-requires-clause-room
put_entries-requires-clause-room c =
    let n = 42 * c.args.d.listed in
    room_left c.decimal.ensures 21 n (most_decimal _ _) (room_left c.three.ensures 63 (21 + n) (most_three _ _ _) (omega arith))

pub returns : goal.returns
unfolding differences_text
returns c = rw (← c.marks_number.ensures) (writes_more (writes_more c.three.ensures c.decimal.ensures) c.put_entries.ensures)
