-- `why::ask_turns` meets its contract. Assumes nothing.
use native.Mathlib.Omega.{arith}
use Rattle.source.proofs.Source.{length-vertices}
use Rattle.why.proofs.Turns.{asks_none, asks-turn, asks-done, at-first, at_next}
use Rattle.why.proofs.ask_turns.Goals as goal

pub loop-turn-init : goal.loop-turn-init
loop-turn-init c = let pre = c.requires in rw (at-first pre.below) (asks_none pre.below pre.ready)

pub overflow_add-from : goal.overflow_add-from
overflow_add-from c =
    let pre = c.requires in
    omega (arith, length-vertices c.args.source.now, pre.long, pre.below, pre.ready.sources, c.loop-turn-test.true)

pub loop-turn-preserved : goal.loop-turn-preserved
loop-turn-preserved c =
    let l = c.loop-turn in
    asks-turn l.invariant _ c.turn-asking.result c.loop-turn-test.true c.vertex_at-next.ensures c.turn-asking.ensures.0 c.turn-asking.ensures.1 (at_next l.turn c.requires.below)

pub returns : goal.returns
returns c = let l = c.loop-turn in (asks-done l.invariant c.loop-turn-test.false, l.invariant.ready.fit)
