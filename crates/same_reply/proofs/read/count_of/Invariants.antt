-- `read::count_of` meets its contract. Assumes nothing.
use Prim.Native.Nat.{◌-◌}
use Rattle.same_reply.proofs.Reading.{Counting}
use Rattle.same_reply.proofs.read.count_of.Given as goal

abbrev pub invariant-loop-k : goal.invariant-loop-k
invariant-loop-k l = Counting l.text l.n l.k

abbrev pub decreases-loop-k : goal.decreases-loop-k
decreases-loop-k l = 5 - l.k
