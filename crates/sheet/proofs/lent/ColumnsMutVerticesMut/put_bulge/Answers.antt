-- `ColumnsMut::put_bulge` meets its contract. Assumes nothing.
use native.Mathlib.Omega.{arith}
use Rattle.sheet.proofs.Holding.{held_column, bulge_column}
use Rattle.sheet.proofs.lent.ColumnsMutVerticesMut.put_bulge.Goals as goal

pub offset_bounds-self-k : goal.offset_bounds-self-k
offset_bounds-self-k c = let n = held_column _ _ _ _ _ c.requires in omega (arith, n.2)

pub bounds-self-k : goal.bounds-self-k
bounds-self-k c = (held_column _ _ _ _ _ c.requires).2

pub returns : goal.returns
returns c = bulge_column _ _ _ _ _ _ c.requires
