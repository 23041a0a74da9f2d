-- `sheet::put_spans` meets its contract. Assumes nothing.
use Rattle.sheet.proofs.Origins.{Spanned}
use Rattle.sheet.proofs.put_spans.Given as goal

abbrev pub invariant-loop-k : goal.invariant-loop-k
invariant-loop-k l = Spanned l.count l.initial.origins l.k l.origins
