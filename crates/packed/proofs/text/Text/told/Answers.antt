-- `Text::told` meets its contract. Assumes nothing.
use native.Mathlib.Omega.{arith}
use Rattle.packed.specs.Text.{told_of}
use Rattle.packed.proofs.Digits.{most_decimal}
use Rattle.packed.proofs.Lines.{most_three}
use Rattle.packed.proofs.Writing.{room_left, writes_more}
use Rattle.packed.proofs.text.Text.told.Goals as goal

pub three-requires-2 : goal.three-requires-2
three-requires-2 c = room_left c.three.ensures 63 63 (most_three _ _ _) (omega arith)

pub decimal-requires : goal.decimal-requires
decimal-requires c =
    room_left c.three-2.ensures 63 21 (most_three _ _ _) (room_left c.three.ensures 63 84 (most_three _ _ _) (omega arith))

pub pair-requires : goal.pair-requires
pair-requires c =
    room_left c.decimal.ensures 21 34 (most_decimal _ _)
    (room_left c.three-2.ensures 63 55 (most_three _ _ _) (room_left c.three.ensures 63 118 (most_three _ _ _) (omega arith)))

pub returns : goal.returns
unfolding told_of
returns c = writes_more (writes_more (writes_more c.three.ensures c.three-2.ensures) c.decimal.ensures) c.pair.ensures
