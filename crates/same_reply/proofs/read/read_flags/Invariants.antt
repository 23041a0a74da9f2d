-- `read::read_flags` meets its contract. Assumes nothing.
use mathlib.Core.Path.{◌≡◌}
use lib.ListN.{take}
use Rattle.same_reply.specs.Read.{flags_at}
use Rattle.same_reply.proofs.read.read_flags.Given as goal

abbrev pub invariant-loop-k : goal.invariant-loop-k
invariant-loop-k l = take l.k l.flag-items ≡ flags_at l.bytes l.i l.k
