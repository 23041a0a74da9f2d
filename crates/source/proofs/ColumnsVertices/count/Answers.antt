-- `Columns::count` meets its contract. Assumes nothing.
use mathlib.Core.Path.{sym, ◌∙◌}
use Rattle.source.proofs.Source.{length-columns}
use Rattle.source.proofs.ColumnsVertices.count.Goals as goal

pub returns : goal.returns
returns c = c.min-2.ensures ∙ rw c.min.ensures (sym (length-columns _ _ _))
