-- `put_output` meets its contract. Assumes nothing.
use Prim.Native.Nat.{◌*◌}
use native.Mathlib.Omega.{arith}
use Rattle.packed.specs.Text.{text_of}
use Rattle.packed.proofs.Lines.{most_head}
use Rattle.packed.proofs.Writing.{room_left, writes_more}
use Rattle.same_reply.proofs.text.put_output.Goals as goal

pub lines-requires-clause-room : goal.lines-requires-clause-room
lines-requires-clause-room c = room_left c.head.ensures 49 (53 * c.args.count) (most_head _ _) (omega arith)

pub returns : goal.returns
unfolding text_of
returns c = writes_more c.head.ensures c.lines.ensures
