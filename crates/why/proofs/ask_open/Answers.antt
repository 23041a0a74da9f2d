-- `why::ask_open` meets its contract. Assumes nothing.
use mathlib.Core.Path.{◌∙◌}
use native.Mathlib.Omega.{arith}
use Rattle.why.proofs.Whole.{turns_added, none_added, ready-first, open_whole}
use Rattle.why.proofs.ask_open.Goals as goal

pub ask_turns-asking-requires : goal.ask_turns-asking-requires
ask_turns-asking-requires c =
    let pre = c.requires in
    record { long = pre.long; below = omega (arith, pre.two); ready = ready-first _ _ _ c.standing-first.result c.standing-first.ensures (omega (arith, pre.most)) }

pub ask_last-requires : goal.ask_last-requires
ask_last-requires c =
    let none = none_added _ _ c.standing-first.result c.standing-first.ensures.0 in
    let all = turns_added _ _ _ _ _ _ _ c.ask_turns-asking.result _ c.ask_turns-asking.ensures.0 in
    omega (arith, c.requires.most, none.1, all.number)

pub returns : goal.returns
returns c =
    let pre = c.requires in
    c.ask_last.ensures ∙ rw (c.ask_turns-asking.ensures.0, c.standing-first.ensures.0, c.vertex_at.ensures) (open_whole _ _ _ _ pre.long pre.two)
