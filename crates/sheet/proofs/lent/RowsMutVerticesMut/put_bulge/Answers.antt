-- `RowsMut::put_bulge` meets its contract. Assumes nothing.
use native.Mathlib.Omega.{arith}
use Rattle.sheet.proofs.Holding.{held-row, bulge-row}
use Rattle.sheet.proofs.lent.RowsMutVerticesMut.put_bulge.Goals as goal

pub overflow_mul-self : goal.overflow_mul-self
overflow_mul-self c = omega (arith, held-row _ _ _ c.requires)

pub overflow_add-self : goal.overflow_add-self
overflow_add-self c = omega (arith, held-row _ _ _ c.requires)

pub offset_bounds-self-k : goal.offset_bounds-self-k
offset_bounds-self-k c = omega (arith, held-row _ _ _ c.requires)

pub bounds-self-k : goal.bounds-self-k
bounds-self-k c = omega (arith, held-row _ _ _ c.requires)

pub returns : goal.returns
returns c = bulge-row _ _ _ _ c.requires
