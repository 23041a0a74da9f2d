-- `layers::layers_join` meets its contract. Assumes nothing.
use mathlib.Core.Path.{◌≡◌, ap, ◌∙◌}
use mathlib.Core.List.{List}
use native.Mathlib.Omega.{arith}
use lib.Ieee.{Float}
use Rattle.vectors.specs.declared.Vector2.{Vector2}
use Rattle.segments.specs.declared.Settings.{Settings}
use Rattle.segments.specs.Modes.{round_by}
use Rattle.segments.specs.declared.PlineVertex.{PlineVertex}
use Rattle.segments.specs.declared.RawOffsetSeg.{RawOffsetSeg}
use Rattle.segments.specs.Vertex.{pos_of}
use Rattle.segments.specs.Segment.{offset_seg}
use Rattle.source.specs.Source.{vertices_of}
use Rattle.source.specs.InnerSteps.{vertex_of}
use Rattle.source.proofs.Source.{length-vertices}
use Rattle.joins.specs.Rules.{ruled_join}
use Rattle.layers.specs.InnerSteps.{join_listed, join_of_four}
use Rattle.layers.proofs.layers_join.Goals as goal

-- a join of the vertices' segments
joined-four : {g h : RawOffsetSeg} {b c d : PlineVertex} {p : Vector2} {τ : Settings} (s : List Float) (σ : Settings) → τ ≡ σ →
    g ≡ offset_seg b c σ.offset → h ≡ offset_seg c d σ.offset → p ≡ pos_of c →
    b ≡ vertex_of (vertices_of s) 1 → c ≡ vertex_of (vertices_of s) 2 → d ≡ vertex_of (vertices_of s) 3 → ruled_join g h p τ ≡ join_of_four s σ
joined-four s σ t g h p b c d = rw (t, g, h, p, b, c, d)

pub vertex_at-b-requires : goal.vertex_at-b-requires
vertex_at-b-requires c = omega (arith, length-vertices c.args.source.now)

pub vertex_at-c-requires : goal.vertex_at-c-requires
vertex_at-c-requires c = omega (arith, length-vertices c.args.source.now)

pub vertex_at-requires : goal.vertex_at-requires
vertex_at-requires c = omega (arith, length-vertices c.args.source.now)

pub seen_before-seen-requires : goal.seen_before-seen-requires
seen_before-seen-requires c = c.anew-current.ensures.marked

pub vertex_at-requires-2 : goal.vertex_at-requires-2
vertex_at-requires-2 c = omega (arith, length-vertices c.args.source.now)

pub analyze_join-joined-requires : goal.analyze_join-joined-requires
analyze_join-joined-requires c = (c.anew-current.ensures.marked, c.anew-next.ensures.marked)

pub returns : goal.returns
returns c =
    let a = c.args in
    c.listed_join.ensures
    ∙ ap join_listed
    (c.analyze_join-joined.ensures.boundary
    ∙ joined-four _ (round_by a.offset a.eps) c.round-settings.ensures (c.seen_before-seen.ensures ∙ c.anew-current.ensures.full) c.anew-next.ensures.full c.pos.ensures
    c.vertex_at-b.ensures c.vertex_at-c.ensures c.vertex_at-2.ensures)
