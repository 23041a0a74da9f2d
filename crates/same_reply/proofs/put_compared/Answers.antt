-- `put_compared` meets its contract. Assumes nothing.
use mathlib.Core.Path.{ap, ◌∙◌}
use Rattle.std.specs.Result.{result_unwrap_or}
use Rattle.same_reply.proofs.Listed.{few-listed, compared_text}
use Rattle.same_reply.proofs.put_compared.Goals as goal

pub put_differences-requires-clause-listed : goal.put_differences-requires-clause-listed
put_differences-requires-clause-listed c =
    few-listed _ _ c.compare-answer.ensures (c.unwrap_or-found.ensures ∙ ap (result_unwrap_or c.compare-answer.result) c.none.ensures)

pub returns : goal.returns
returns c =
    let told = c.unwrap_or-found.ensures ∙ ap (result_unwrap_or c.compare-answer.result) c.none.ensures in
    rw (compared_text _ _ c.compare-answer.ensures told) c.put_differences.ensures
