-- `put_entry` meets its contract. Assumes nothing.
use native.Mathlib.Omega.{arith}
use Rattle.packed.proofs.Digits.{most_decimal}
use Rattle.packed.proofs.Writing.{room_left, writes_more}
use Rattle.same_reply.proofs.text.put_entry.Goals as goal

pub decimal-requires-2 : goal.decimal-requires-2
decimal-requires-2 c = room_left c.decimal.ensures 21 21 (most_decimal _ _) (omega arith)

pub returns : goal.returns
returns c = writes_more c.decimal.ensures c.decimal-2.ensures
