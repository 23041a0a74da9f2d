-- `sheet::draw_open` meets its contract. Assumes nothing.
use mathlib.Core.Path.{refl, ◌∙◌}
use Prim.Native.Nat.{◌-◌}
use native.Mathlib.Omega.{arith}
use lib.ListN.{length}
use Rattle.source.specs.Source.{vertices_in}
use Rattle.walk.specs.Walk.{moves_a_segment}
use Rattle.walk.proofs.Lengths.{moves-few}
use Rattle.sheet.proofs.Products.{product_less}
use Rattle.sheet.proofs.Loop.{turns-first}
use Rattle.sheet.proofs.Whole.{first-lasts, open_built}
use Rattle.sheet.proofs.draw_open.Goals as goal

pub vertex-requires : goal.vertex-requires
vertex-requires g c = omega (arith, c.requires.ready.two)

pub overflow_sub-v : goal.overflow_sub-v
overflow_sub-v g c = omega (arith, c.requires.ready.two, c.count-v.ensures)

pub store_turns-sheet-requires : goal.store_turns-sheet-requires
store_turns-sheet-requires g c =
    let d = c.requires in
    let r = d.ready in
    let m = moves_a_segment c.args.settings.corners in
    let few = product_less m (length (vertices_in (g.S.Vertices.lent c.args.source)) - 1) (omega (arith, r.two)) in
    record {
      pointed_value = d.told;
      starts = rw c.count-v.ensures (record { long = refl; below = omega (arith, r.two); turns = turns-first _ 1 _ _ r c.standing-first.ensures m (moves-few c.args.settings.corners) (omega arith) (omega (arith, few, d.enough)) });
    }

pub draw_last-requires : goal.draw_last-requires
draw_last-requires g c =
    let t = c.store_turns-sheet in
    first-lasts _ _ _ _ _ _ _ c.standing-first.result t.result c.requires c.standing-first.ensures (rw c.count-v.ensures at t.ensures.stored)

pub returns : goal.returns
returns g c =
    let t = c.store_turns-sheet in
    let first = c.standing-first.ensures in
    c.draw_last.ensures
    ∙ rw c.count-v.ensures (open_built c.args.settings _ _ c.args.room c.args.pointed _ t.result c.requires (rw c.count-v.ensures at t.ensures.stored ∙ rw (first.0, first.2, c.vertex.ensures)))
