-- `sheet::draw_closed` meets its contract. Assumes nothing.
use mathlib.Core.Path.{◌≡◌, refl, ◌∙◌}
use Prim.Native.Nat.{◌-◌}
use native.Mathlib.Omega.{arith}
use Rattle.walk.specs.Walk.{moves_a_segment}
use Rattle.walk.proofs.Lengths.{moves-few}
use Rattle.sheet.proofs.Loop.{turns-first, trail_alike}
use Rattle.sheet.proofs.Whole.{drawable_alike, closed-entered, closed-built}
use Rattle.sheet.proofs.draw_closed.Goals as goal

pub overflow_sub-count : goal.overflow_sub-count
overflow_sub-count g c = omega (arith, c.requires.ready.two, c.count.ensures)

pub vertex-requires : goal.vertex-requires
vertex-requires g c = omega (arith, c.requires.ready.two, c.count.ensures)

pub store_turns-led-requires : goal.store_turns-led-requires
store_turns-led-requires g c =
    let d = c.requires in
    let r = d.ready in
    let none : 2 - 2 ≡ 0 = omega arith in
    let moves = moves_a_segment c.args.settings.corners in
    let few = moves-few c.args.settings.corners in
    record {
      pointed_value = d.told;
      starts = record { long = refl; below = omega (arith, r.two); turns = turns-first 2 2 _ _ r c.standing-first.ensures moves few (omega arith) (rw none (omega arith)) };
    }

pub draw_around-requires : goal.draw_around-requires
draw_around-requires g c =
    let t = c.store_turns-led in
    let first = c.standing-first.ensures in (
      drawable_alike c.requires (trail_alike _ _ _ c.standing-first.result t.result t.ensures.stored),
      closed-entered c.args.settings _ _ c.args.room c.args.pointed _ t.result c.requires (t.ensures.stored ∙ rw (first.0, first.2, c.vertex.ensures, c.count.ensures)) t.ensures.fit,
    )

pub returns : goal.returns
returns g c =
    let t = c.store_turns-led in
    let first = c.standing-first.ensures in
    c.draw_around.ensures
    ∙ closed-built c.args.settings _ _ c.args.room c.args.pointed _ t.result c.requires (t.ensures.stored ∙ rw (first.0, first.2, c.vertex.ensures, c.count.ensures))
