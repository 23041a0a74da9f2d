-- `why::ask_closed` meets its contract. Assumes nothing.
use mathlib.Core.Path.{◌∙◌}
use native.Mathlib.Omega.{arith}
use Rattle.why.proofs.Whole.{turns_added, none_added, ready-first, closed-asked}
use Rattle.why.proofs.ask_closed.Goals as goal

pub ask_turns-led-requires : goal.ask_turns-led-requires
ask_turns-led-requires c =
    let pre = c.requires in
    record { long = pre.long; below = omega (arith, pre.two); ready = ready-first _ _ _ c.standing-first.result c.standing-first.ensures (omega arith) }

pub ask_turns-asking-requires : goal.ask_turns-asking-requires
ask_turns-asking-requires c =
    let pre = c.requires in
    let none = none_added _ _ c.standing-first.result c.standing-first.ensures.0 in
    let led = turns_added _ _ _ _ _ _ _ c.ask_turns-led.result _ c.ask_turns-led.ensures.0 in
    record {
      long = pre.long;
      below = c.next_place-next.ensures.1;
      ready = record { fit = c.ask_turns-led.ensures.1; sources = omega (arith, pre.most, none.0, led.source); outputs = omega (arith, pre.most, none.1, led.number) };
    }

pub ask_closing-requires : goal.ask_closing-requires
ask_closing-requires c =
    let none = none_added _ _ c.standing-first.result c.standing-first.ensures.0 in
    let led = turns_added _ _ _ _ _ _ _ c.ask_turns-led.result _ c.ask_turns-led.ensures.0 in
    let all = turns_added _ _ _ _ _ _ _ c.ask_turns-asking.result _ c.ask_turns-asking.ensures.0 in
    omega (arith, c.requires.most, none.1, led.number, all.number)

pub returns : goal.returns
returns c =
    let pre = c.requires in
    c.ask_closing.ensures
    ∙ closed-asked _ _ _ _ pre.long pre.two c.standing-first.result c.ask_turns-led.result (c.standing-first.ensures.0 ∙ rw c.vertex_at.ensures)
    c.ask_turns-led.ensures.0 c.next_place-next.ensures.0 c.ask_turns-asking.ensures.0
