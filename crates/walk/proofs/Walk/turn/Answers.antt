-- `walk::Walk::turn` meets its contract. Assumes nothing.
use mathlib.Core.Path.{◌≡◌, refl, ap, ◌∙◌}
use mathlib.Core.Bool.{Bool}
use Prim.Native.Nat.{◌+◌}
use native.Mathlib.Omega.{arith}
use Rattle.segments.specs.declared.PlineVertex.{PlineVertex}
use Rattle.segments.specs.declared.Settings.{Settings}
use Rattle.segments.specs.Vertex.{pos_of}
use Rattle.segments.specs.Segment.{offset_seg, span_bulge}
use Rattle.segments.specs.InnerSteps.{full_seg, bulge_by}
use Rattle.segments.proofs.Carried.{bulge-by}
use Rattle.moves.specs.declared.Move.{Move}
use Rattle.joins.specs.Rules.{ruled_join, forgotten}
use Rattle.joins.specs.Corner.{cornered}
use Rattle.joins.proofs.Corner.{corner_forgets}
use Rattle.moves.specs.Made.{segment_of, span_move, tip_move, tip_moves, connector_move, connector_moves}
use Rattle.moves.proofs.Tips.{tip-first}
use Rattle.walk.specs.InnerSteps.{Standing, Turn, turn_to}
use Rattle.walk.proofs.Walk.turn.Goals as goal

-- the turn by its join with the rules: all but them is the join as it was
by-ruled : (w : Standing) (c : PlineVertex) (σ : Settings) →
    let next = offset_seg w.vertex c σ.offset in
    let j = cornered w.current next (pos_of w.vertex) σ (ruled_join w.current next (pos_of w.vertex) σ) in
    ◌≡◌ {A = Turn} (record {
      span = span_move w.source.0 w.current w.entry.next_param j.current_end j.current_param;
      connectors = connector_moves w.source.0 j;
      join = j;
      walker = record { source = record { 0 = w.source.0 + 1 }; current = next; vertex = c; entry = forgotten j };
    })
    (turn_to w c σ)
unfolding turn_to connector_moves tip_moves tip_move connector_move
by-ruled w c σ = rw (← corner_forgets w.current (offset_seg w.vertex c σ.offset) (pos_of w.vertex) σ)

pub analyze_join-joined-requires : goal.analyze_join-joined-requires
analyze_join-joined-requires c = let pre = c.requires in (pre.fit.0.marked, pre.carries.marked)

pub outer_corner-boundary-requires : goal.outer_corner-boundary-requires
outer_corner-boundary-requires c = c.requires.fit.1

pub overflow_add-after : goal.overflow_add-after
overflow_add-after c = omega (arith, c.requires.source_bound)

pub returns : goal.returns
unfolding span_move connector_moves
returns c =
    let w = c.args.self in
    let segment = c.requires.carries in
    let joined = c.analyze_join-joined in
    let corner = c.outer_corner-boundary in
    let to = corner.result.current_param in
    let arc = c.is_arc-curved in
    let swept = c.span_sweep-sweep in
    let bulge : bulge_by arc.result swept.result ≡ span_bulge (full_seg w.current) w.entry.next_param to =
    ap (λ (b : Bool). bulge_by b swept.result) arc.ensures ∙ ap (bulge_by _) swept.ensures ∙ bulge-by (full_seg w.current) w.entry.next_param to in (
      rw (← by-ruled) (simp (
        c.without_rules-entry.ensures,
        c.connector-connector.ensures,
        tip-first,
        c.straight_span-span.ensures,
        bulge,
        corner.ensures,
        joined.ensures.boundary,
        c.requires.fit.0.seen,
        segment.full,
        c.pos-shared.ensures,
      )),
      ap (λ (m : Move). m.bulge) c.straight_span-span.ensures,
      record { marked = segment.marked; seen = joined.ensures.seen },
      refl,
      refl,
      unfold connector_move in ap (λ (m : Move). segment_of m.origin) c.connector-connector.ensures,
    )
