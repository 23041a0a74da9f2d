-- `ColumnsMut::put` meets its contract. Assumes nothing.
use native.Mathlib.Omega.{arith}
use Rattle.sheet.proofs.Holding.{held_column, put_column}
use Rattle.sheet.proofs.lent.ColumnsMutVerticesMut.put.Goals as goal

pub offset_bounds-self-k : goal.offset_bounds-self-k
offset_bounds-self-k c = let n = held_column _ _ _ _ _ c.requires in omega (arith, n.0)

pub bounds-self-k : goal.bounds-self-k
bounds-self-k c = (held_column _ _ _ _ _ c.requires).0

pub offset_bounds-self-k-2 : goal.offset_bounds-self-k-2
offset_bounds-self-k-2 c = let n = held_column _ _ _ _ _ c.requires in omega (arith, n.1)

pub bounds-self-k-2 : goal.bounds-self-k-2
bounds-self-k-2 c = (held_column _ _ _ _ _ c.requires).1

pub offset_bounds-self-k-3 : goal.offset_bounds-self-k-3
offset_bounds-self-k-3 c = let n = held_column _ _ _ _ _ c.requires in omega (arith, n.2)

pub bounds-self-k-3 : goal.bounds-self-k-3
bounds-self-k-3 c = (held_column _ _ _ _ _ c.requires).2

pub returns : goal.returns
returns c = put_column _ _ _ _ _ _ c.requires
