-- `ColumnsMut::count` meets its contract. Assumes nothing.
use mathlib.Core.Path.{sym, ◌∙◌}
use Rattle.sheet.proofs.Holding.{held-columns}
use Rattle.sheet.proofs.lent.ColumnsMutVerticesMut.count.Goals as goal

pub returns : goal.returns
returns c = c.min-2.ensures ∙ rw c.min.ensures (sym (held-columns _ _ _ _))
