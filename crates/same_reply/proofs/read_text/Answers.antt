-- `read_text` meets its contract. Assumes nothing.
use mathlib.Core.Path.{sym, ◌∙◌}
use native.Mathlib.Omega.{arith}
use Rattle.same_reply.proofs.Pairs.{text-many, text-told}
use Rattle.same_reply.proofs.read_text.Goals as goal
use Rattle.same_reply.proofs.read_text.Goals.{else-count-le-VERTICES-via-then-count-le-VERTICES+else-is_printed, else-count-le-VERTICES-via-else-count-le-VERTICES}

pub returns-then-is_printed-clause-found : goal.returns-then-is_printed-clause-found
returns-then-is_printed-clause-found c =
    sym c.if-is_printed.true ∙ c.is_printed.ensures ∙ text-told c.args.text.now (c.read_output-head.ensures.kept (omega arith))

pub returns-else-count-le-VERTICES-clause-found : goal.returns-else-count-le-VERTICES-clause-found
returns-else-count-le-VERTICES-clause-found c = elim c.else-count-le-VERTICES.branch [
  | else-count-le-VERTICES-via-then-count-le-VERTICES+else-is_printed w ↦ sym w.if-is_printed.false ∙ w.is_printed.ensures ∙ text-told c.args.text.now (c.read_output-head.ensures.kept (omega arith))
  | else-count-le-VERTICES-via-else-count-le-VERTICES w ↦ text-many c.args.text.now c.read_output-head.ensures.count_value w.if-count-le-VERTICES.false
]
