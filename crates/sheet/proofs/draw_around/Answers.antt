-- `sheet::draw_around` meets its contract. Assumes nothing.
use mathlib.Core.Path.{refl, ap, ◌∙◌}
use native.Mathlib.Omega.{arith}
use Rattle.sheet.specs.InnerSteps.{Trail, closes}
use Rattle.sheet.proofs.Loop.{turns-around}
use Rattle.sheet.proofs.Whole.{around-lasts}
use Rattle.sheet.proofs.draw_around.Goals as goal

pub next_place-next-requires : goal.next_place-next-requires
next_place-next-requires g c = omega (arith, c.requires.0.ready.two, c.count-v.ensures)

pub overflow_sub-v : goal.overflow_sub-v
overflow_sub-v g c = omega (arith, c.requires.0.ready.two, c.count-v.ensures)

pub store_turns-sheet-requires : goal.store_turns-sheet-requires
store_turns-sheet-requires g c =
    let pre = c.requires in
    record {
      pointed_value = pre.0.told;
      starts = rw c.count-v.ensures (record { long = refl; below = rw c.count-v.ensures at c.next_place-next.ensures.1; turns = turns-around pre.0 pre.1 });
    }

pub draw_closing-requires : goal.draw_closing-requires
draw_closing-requires g c =
    let t = c.store_turns-sheet in
    let pre = c.requires in
    (around-lasts _ _ _ _ _ _ c.args.led t.result pre.0 pre.1 (rw c.count-v.ensures at t.ensures.stored), λ z. pre.0.told ∙ pre.1.tipped z)

pub returns : goal.returns
returns g c =
    let t = c.store_turns-sheet in
    let a = c.args in
    c.draw_closing.ensures ∙ ap (λ (r : Trail). closes a.room a.led.walk.entry a.settings.eps r) t.ensures.stored ∙ rw (c.next_place-next.ensures.0, c.count-v.ensures)
