-- `refusal` meets its contract. Assumes nothing.
use native.Mathlib.Omega.{arith}
use Rattle.packed.specs.Text.{refusal_of}
use Rattle.packed.proofs.Digits.{most_decimal}
use Rattle.packed.proofs.Writing.{room_left, writes_more}
use Rattle.packed.proofs.text.Text.refusal.Goals as goal

pub decimal-requires-2 : goal.decimal-requires-2
decimal-requires-2 c = room_left c.decimal.ensures 21 21 (most_decimal _ _) (omega arith)

pub returns : goal.returns
unfolding refusal_of
returns c = writes_more c.decimal.ensures c.decimal-2.ensures
