-- `RowsMut::count` meets its contract. Assumes nothing.
use mathlib.Core.Path.{sym}
use Rattle.sheet.proofs.Holding.{held-rows}
use Rattle.sheet.proofs.lent.RowsMutVerticesMut.count.Goals as goal

pub returns : goal.returns
returns c = sym (held-rows _ _)
