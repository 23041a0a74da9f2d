-- `origins` meets its contract. Assumes nothing.
use Prim.Native.Nat.{◌+◌, ◌*◌}
use native.Mathlib.Omega.{arith}
use Rattle.moves.specs.Origins.{origins_in}
use Rattle.packed.specs.Text.{origins_text}
use Rattle.packed.proofs.Digits.{most_decimal}
use Rattle.packed.proofs.Lines.{printed-none, printed-text}
use Rattle.packed.proofs.Writing.{room_left, writes_more, writes_none}
use Rattle.packed.proofs.text.Text.origins.Goals as goal

pub decimal-requires-then-count-le1536 : goal.decimal-requires-then-count-le1536
decimal-requires-then-count-le1536 c = room_left c.decimal.ensures 21 21 (most_decimal _ _) (omega arith)

pub origin_lines-requires-clause-room : goal.origin_lines-requires-clause-room
origin_lines-requires-clause-room c =
    let n = 31 * c.args.count in
    room_left c.decimal-then-count-le1536.ensures 21 n (most_decimal _ _) (room_left c.decimal.ensures 21 (21 + n) (most_decimal _ _) (omega arith))

pub returns-then-count-le1536 : goal.returns-then-count-le1536
unfolding origins_text
returns-then-count-le1536 c =
    let t = printed-text c.args.count (origins_text c.args.count (origins_in c.args.origins.now)) c.if-count-le1536.true in
    rw (← t) (writes_more (writes_more c.decimal.ensures c.decimal-then-count-le1536.ensures) c.origin_lines.ensures)

pub returns-else-count-le1536 : goal.returns-else-count-le1536
returns-else-count-le1536 c =
    let t = printed-none c.args.count (origins_text c.args.count (origins_in c.args.origins.now)) c.if-count-le1536.false in
    rw (← t) (writes_none (omega arith))
