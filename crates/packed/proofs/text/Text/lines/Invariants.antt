-- `lines` meets its contract. Assumes nothing.
use Rattle.packed.specs.Text.{lines_of}
use Rattle.packed.specs.Writes.{Writes}
use Rattle.packed.proofs.text.Text.lines.Given as goal

abbrev pub invariant-loop-i : goal.invariant-loop-i
invariant-loop-i l = Writes (lines_of l.count l.closed l.vertices l.flags l.i) l.initial.self l.self
