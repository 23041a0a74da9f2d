-- `source::vertex_at` meets its contract. Assumes nothing.
use mathlib.Core.Path.{sym}
use native.Mathlib.Omega.{arith}
use Rattle.source.proofs.Source.{row_at, row_within}
use Rattle.source.proofs.vertex_at.Goals as goal

pub overflow_mul-i : goal.overflow_mul-i
overflow_mul-i c = omega (arith, row_within _ _ c.requires)

pub offset_bounds-source-i : goal.offset_bounds-source-i
offset_bounds-source-i c = omega (arith, row_within _ _ c.requires)

pub bounds-source-i : goal.bounds-source-i
bounds-source-i c = omega (arith, row_within _ _ c.requires)

pub overflow_add-result : goal.overflow_add-result
overflow_add-result c = omega (arith, row_within _ _ c.requires)

pub offset_bounds-source-i-2 : goal.offset_bounds-source-i-2
offset_bounds-source-i-2 c = omega (arith, row_within _ _ c.requires)

pub bounds-source-i-2 : goal.bounds-source-i-2
bounds-source-i-2 c = omega (arith, row_within _ _ c.requires)

pub overflow_add-result-2 : goal.overflow_add-result-2
overflow_add-result-2 c = omega (arith, row_within _ _ c.requires)

pub offset_bounds-source-i-3 : goal.offset_bounds-source-i-3
offset_bounds-source-i-3 c = omega (arith, row_within _ _ c.requires)

pub bounds-source-i-3 : goal.bounds-source-i-3
bounds-source-i-3 c = omega (arith, row_within _ _ c.requires)

pub returns : goal.returns
returns c = sym (row_at _ _ c.requires)
