-- `put_piece` meets its contract. Assumes nothing.
use native.Mathlib.Omega.{arith}
use Rattle.packed.proofs.Writing.{room_left, writes_more}
use Rattle.pen_reply.specs.Pen.{piece_text}
use Rattle.pen_reply.proofs.Rows.{most_place}
use Rattle.pen_reply.proofs.put_piece.Goals as goal

pub put_place-requires-2-clause-room : goal.put_place-requires-2-clause-room
put_place-requires-2-clause-room c = room_left c.put_place.ensures 84 84 (most_place _ _ _ _ 0) (omega arith)

pub put_place-requires-3-clause-room : goal.put_place-requires-3-clause-room
put_place-requires-3-clause-room c =
    room_left c.put_place-2.ensures 84 84 (most_place _ _ _ _ 1) (room_left c.put_place.ensures 84 168 (most_place _ _ _ _ 0) (omega arith))

pub returns : goal.returns
unfolding piece_text
returns c = writes_more (writes_more c.put_place.ensures c.put_place-2.ensures) c.put_place-3.ensures
