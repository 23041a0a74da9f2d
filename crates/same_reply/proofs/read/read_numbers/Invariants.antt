-- `read::read_numbers` meets its contract. Assumes nothing.
use mathlib.Core.Path.{◌≡◌}
use lib.Seq.{sets}
use Rattle.same_reply.specs.Read.{numbers_at}
use Rattle.same_reply.proofs.read.read_numbers.Given as goal

abbrev pub invariant-loop-k : goal.invariant-loop-k
invariant-loop-k l = l.numbers ≡ sets l.initial.numbers 0 (numbers_at l.bytes l.i l.k)
