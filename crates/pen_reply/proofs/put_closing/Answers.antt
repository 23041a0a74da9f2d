-- `put_closing` meets its contract. Assumes nothing.
use native.Mathlib.Omega.{arith}
use Rattle.packed.proofs.Writing.{room_left, writes_more}
use Rattle.pen_reply.specs.Pen.{closing_text}
use Rattle.pen_reply.proofs.Rows.{most_piece}
use Rattle.pen_reply.proofs.put_closing.Goals as goal

pub head-requires : goal.head-requires
head-requires c = room_left c.put_piece.ensures 252 49 (most_piece _ _ _ _) (omega arith)

pub returns : goal.returns
unfolding closing_text
returns c = writes_more c.put_piece.ensures c.head.ensures
