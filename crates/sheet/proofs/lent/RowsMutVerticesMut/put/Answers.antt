-- `RowsMut::put` meets its contract. Assumes nothing.
use native.Mathlib.Omega.{arith}
use lib.ListN.{length-set}
use Rattle.sheet.proofs.Holding.{held-row, put-row}
use Rattle.sheet.proofs.lent.RowsMutVerticesMut.put.Goals as goal

pub overflow_mul-at : goal.overflow_mul-at
overflow_mul-at c = omega (arith, held-row _ _ _ c.requires)

pub offset_bounds-self-at : goal.offset_bounds-self-at
offset_bounds-self-at c = omega (arith, held-row _ _ _ c.requires)

pub bounds-self-at : goal.bounds-self-at
bounds-self-at c = omega (arith, held-row _ _ _ c.requires)

pub overflow_add-self : goal.overflow_add-self
overflow_add-self c = omega (arith, held-row _ _ _ c.requires)

pub offset_bounds-self-at-2 : goal.offset_bounds-self-at-2
offset_bounds-self-at-2 c = omega (arith, held-row _ _ _ c.requires)

pub bounds-self-at-2 : goal.bounds-self-at-2
bounds-self-at-2 c = simp length-set (omega (arith, held-row _ _ _ c.requires))

pub overflow_add-self-2 : goal.overflow_add-self-2
overflow_add-self-2 c = omega (arith, held-row _ _ _ c.requires)

pub offset_bounds-self-at-3 : goal.offset_bounds-self-at-3
offset_bounds-self-at-3 c = omega (arith, held-row _ _ _ c.requires)

pub bounds-self-at-3 : goal.bounds-self-at-3
bounds-self-at-3 c = simp length-set (omega (arith, held-row _ _ _ c.requires))

pub returns : goal.returns
returns c = put-row _ _ _ _ c.requires
