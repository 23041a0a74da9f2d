-- `line` meets its contract. Assumes nothing.
use native.Mathlib.Omega.{arith}
use Rattle.packed.specs.Text.{row_of}
use Rattle.packed.proofs.Lines.{most_number}
use Rattle.packed.proofs.Writing.{room_left, writes_more}
use Rattle.packed.proofs.text.Text.line.Goals as goal

pub hex-requires-2 : goal.hex-requires-2
hex-requires-2 c = room_left c.hex.ensures 17 17 (most_number _ _) (omega arith)

pub hex-requires-3 : goal.hex-requires-3
hex-requires-3 c =
    room_left c.hex-2.ensures 17 17 (most_number _ _) (room_left c.hex.ensures 17 34 (most_number _ _) (omega arith))

pub word-requires : goal.word-requires
word-requires c =
    room_left c.hex-3.ensures 17 2 (most_number _ _)
    (room_left c.hex-2.ensures 17 19 (most_number _ _) (room_left c.hex.ensures 17 36 (most_number _ _) (omega arith)))

pub returns : goal.returns
unfolding row_of
returns c = writes_more (writes_more (writes_more c.hex.ensures c.hex-2.ensures) c.hex-3.ensures) c.word.ensures
