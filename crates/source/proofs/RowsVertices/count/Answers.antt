-- `Rows::count` meets its contract. Assumes nothing.
use mathlib.Core.Path.{sym}
use Rattle.source.proofs.Source.{length-vertices}
use Rattle.source.proofs.RowsVertices.count.Goals as goal

pub returns : goal.returns
returns c = sym (length-vertices _)
