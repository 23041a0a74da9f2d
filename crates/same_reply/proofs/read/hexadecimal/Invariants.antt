-- `read::hexadecimal` meets its contract. Assumes nothing.
use Prim.Native.Nat.{◌-◌}
use Rattle.same_reply.proofs.Reading.{Spelt}
use Rattle.same_reply.proofs.read.hexadecimal.Given as goal

abbrev pub invariant-loop-k : goal.invariant-loop-k
invariant-loop-k l = Spelt l.bytes l.i l.value l.k

abbrev pub decreases-loop-k : goal.decreases-loop-k
decreases-loop-k l = 16 - l.k
