-- `origin_lines` meets its contract. Assumes nothing.
use lib.ListN.{take}
use Rattle.moves.specs.Origins.{origins_in}
use Rattle.packed.specs.Text.{origin_lines}
use Rattle.packed.specs.Writes.{Writes}
use Rattle.packed.proofs.text.Text.origin_lines.Given as goal

abbrev pub invariant-loop-code : goal.invariant-loop-code
invariant-loop-code l = Writes (origin_lines (take l.code-index (origins_in l.origins))) l.initial.self l.self
