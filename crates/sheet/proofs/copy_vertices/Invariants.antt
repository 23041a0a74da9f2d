-- `sheet::copy_vertices` meets its contract. Assumes nothing.
use Rattle.source.specs.Source.{vertices_in}
use Rattle.sheet.specs.InnerSteps.{held_by}
use Rattle.sheet.proofs.Writing.{Putting}
use Rattle.sheet.proofs.copy_vertices.Given as goal

abbrev pub invariant-loop-k : goal.invariant-loop-k
invariant-loop-k g l =
    let vs = vertices_in (g.S.Vertices.lent l.source) in
    Putting vs 0 l.k-end (held_by (g.V.VerticesMut.lent l.initial.vertices)) l.k (held_by (g.V.VerticesMut.lent l.vertices))
