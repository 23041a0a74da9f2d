-- `pieces::take_vertices` meets its contract. Assumes nothing.
use Rattle.source.specs.Source.{vertices_of}
use Rattle.sheet.specs.InnerSteps.{held}
use Rattle.pieces.specs.InnerSteps.{went, went_all}
use Rattle.pieces.proofs.Went.{Going}
use Rattle.pieces.proofs.take_vertices.Given as goal

abbrev pub invariant-loop-k : goal.invariant-loop-k
invariant-loop-k g l =
    let vs = vertices_of l.source.0.now in
    Going l.settings l.pointed vs l.k-end (went_all l.settings vs (went l.initial.taken (held (g.V.VerticesMut.lent l.initial.vertices) l.initial.marks))) l.k
    (went l.taken (held (g.V.VerticesMut.lent l.vertices) l.marks))
