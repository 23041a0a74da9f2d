-- `sheet::store_turns` meets its contract: what the turns still to come leave is what all of them leave from the start, with the bulge that is left to be written counted as
-- written; `chord` is how far the next vertex is (`Walking`). Assumes nothing.
use lib.ListN.{length}
use Rattle.source.specs.Source.{vertices_in}
use Rattle.sheet.specs.InnerSteps.{held, trail, advances, routed}
use Rattle.sheet.proofs.Loop.{Walking}
use Rattle.sheet.proofs.store_turns.Given as goal

abbrev pub invariant-loop-turn : goal.invariant-loop-turn
invariant-loop-turn g l =
    let s = vertices_in (g.S.Vertices.lent l.source) in
    let b₀ = held (g.V.VerticesMut.lent l.initial.vertices) l.initial.marks in
    Walking l.closed l.settings s (length s) l.turns b₀ (advances l.closed l.settings (routed (length s) l.turns l.from s) (trail (record { walk = l.initial.walk; places = l.initial.places }) b₀)) l._turn l.k l.walk l.places l.later
    (held (g.V.VerticesMut.lent l.vertices) l.marks) l.chord
