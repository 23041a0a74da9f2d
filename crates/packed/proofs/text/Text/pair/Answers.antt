-- `pair` meets its contract. Assumes nothing.
use native.Mathlib.Omega.{arith}
use Rattle.packed.specs.Text.{pair_of}
use Rattle.packed.proofs.Lines.{most_number}
use Rattle.packed.proofs.Writing.{room_left, writes_more}
use Rattle.packed.proofs.text.Text.pair.Goals as goal

pub hex-requires-2 : goal.hex-requires-2
hex-requires-2 c = room_left c.hex.ensures 17 17 (most_number _ _) (omega arith)

pub returns : goal.returns
unfolding pair_of
returns c = writes_more c.hex.ensures c.hex-2.ensures
