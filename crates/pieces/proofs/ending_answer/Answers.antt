-- `pieces::ending_answer` meets its contract. Assumes nothing.
use native.Mathlib.Omega.{arith}
use Rattle.moves.proofs.Laws.{byte_small, byte_bit}
use Rattle.pieces.proofs.ending_answer.Goals as goal

pub overflow_add-result : goal.overflow_add-result
overflow_add-result c = omega (arith, c.requires.0, c.from.ensures, byte_small c.is_some.result)

pub returns : goal.returns
returns c = rw (c.from.ensures, byte_bit, c.is_some.ensures)
