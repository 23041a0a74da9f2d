-- `put_entries` meets its contract. Assumes nothing.
use lib.ListN.{length, take}
use Rattle.packed.specs.Writes.{Writes}
use Rattle.same_reply.specs.Same.{entry_lines}
use Rattle.same_reply.proofs.text.put_entries.Given as goal

abbrev pub invariant-loop-number : goal.invariant-loop-number
invariant-loop-number l = Writes (entry_lines (take (length l.yielded) l.numbers) (take (length l.yielded) l.fields)) l.initial.text l.text
