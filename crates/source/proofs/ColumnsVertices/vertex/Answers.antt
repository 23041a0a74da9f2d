-- `Columns::vertex` meets its contract. Assumes nothing.
use mathlib.Core.Path.{sym}
use native.Mathlib.Omega.{arith}
use Rattle.source.proofs.Source.{column_at, column_within}
use Rattle.source.proofs.ColumnsVertices.vertex.Goals as goal

pub offset_bounds-self-k : goal.offset_bounds-self-k
offset_bounds-self-k c = let n = column_within _ _ _ _ c.requires in omega (arith, n.0)

pub bounds-self-k : goal.bounds-self-k
bounds-self-k c = (column_within _ _ _ _ c.requires).0

pub offset_bounds-self-k-2 : goal.offset_bounds-self-k-2
offset_bounds-self-k-2 c = let n = column_within _ _ _ _ c.requires in omega (arith, n.1)

pub bounds-self-k-2 : goal.bounds-self-k-2
bounds-self-k-2 c = (column_within _ _ _ _ c.requires).1

pub offset_bounds-self-k-3 : goal.offset_bounds-self-k-3
offset_bounds-self-k-3 c = let n = column_within _ _ _ _ c.requires in omega (arith, n.2)

pub bounds-self-k-3 : goal.bounds-self-k-3
bounds-self-k-3 c = (column_within _ _ _ _ c.requires).2

pub returns : goal.returns
returns c = sym (column_at _ _ _ _ c.requires)
