-- `sheet::clear_vertices` meets its contract. Assumes nothing.
use mathlib.Core.Path.{◌≡◌}
use Prim.Native.Nat.{◌-◌}
use lib.ListN.{replicate}
use Rattle.sheet.specs.InnerSteps.{held_by, blank}
use Rattle.sheet.proofs.Writing.{Putting}
use Rattle.sheet.proofs.clear_vertices.Given as goal

abbrev pub invariant-loop-k : goal.invariant-loop-k
invariant-loop-k g l =
    let n = l.end - l.initial.k in
    Putting (replicate n blank) l.initial.k n (held_by (g.V.VerticesMut.lent l.initial.vertices)) (l.k - l.initial.k) (held_by (g.V.VerticesMut.lent l.vertices)) × (l.blank ≡ blank)
