-- `answer` meets its contract. Assumes nothing.
use Prim.Native.Nat.{◌*◌}
use native.Mathlib.Omega.{arith}
use Rattle.packed.specs.Text.{text_of}
use Rattle.packed.proofs.Lines.{most_head, printed-none, printed-text}
use Rattle.packed.proofs.Writing.{room_left, writes_more, writes_none}
use Rattle.packed.proofs.text.Text.answer.Goals as goal

pub lines-requires-clause-room : goal.lines-requires-clause-room
lines-requires-clause-room c = room_left c.head.ensures 49 (53 * c.args.count) (most_head _ _) (omega arith)

pub returns-then-count-le1536 : goal.returns-then-count-le1536
unfolding text_of
returns-then-count-le1536 c =
    let a = c.args in
    let t = printed-text a.count (text_of a.count a.closed a.vertices.now a.flags.now) c.if-count-le1536.true in
    rw (← t) (writes_more c.head.ensures c.lines.ensures)

pub returns-else-count-le1536 : goal.returns-else-count-le1536
returns-else-count-le1536 c =
    let a = c.args in
    let t = printed-none a.count (text_of a.count a.closed a.vertices.now a.flags.now) c.if-count-le1536.false in
    rw (← t) (writes_none (omega arith))
