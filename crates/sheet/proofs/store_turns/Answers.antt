-- `sheet::store_turns` meets its contract: what the turns still to come leave is what all of them leave from the start, with the bulge that is left to be written counted as
-- written; `chord` is how far the next vertex is (`Walking`). Assumes nothing.
use mathlib.Core.Path.{sym, ap, ◌∙◌}
use native.Mathlib.Omega.{arith}
use Rattle.walk.specs.InnerSteps.{stood}
use Rattle.sheet.specs.InnerSteps.{held, Laid}
use Rattle.sheet.proofs.Loop.{wrote_later, walking_none, walking_turn, walking_done, room-turn, number-turn, coded_turn, tipped-turn}
use Rattle.sheet.proofs.store_turns.Goals as goal

pub loop-turn-init : goal.loop-turn-init
loop-turn-init g c =
    let pre = c.requires.starts in walking_none c.nothing-later.ensures pre.below pre.turns c.chord_to-chord.ensures

pub vertex-to-requires : goal.vertex-to-requires
vertex-to-requires g c = c.loop-turn.invariant.below

pub store_turn-left-requires-clause-rooms : goal.store_turn-left-requires-clause-rooms
store_turn-left-requires-clause-rooms g c =
    let turn = c.turn-turned in
    let taken = c.loop-turn-test.true in
    let on = c.loop-turn.invariant in
    let w = c.write-far in
    let t = turn.ensures in (
      (λ z. room-turn on _ turn.result t.0 w.result taken (wrote_later c.loop-turn.later c.loop-turn.places w.result (held _ c.loop-turn.marks) w.ensures.0 w.ensures.1) (sym t.4 ∙ z)),
      rw t.3 (number-turn on taken),
    )

pub store_turn-left-requires-clause-coded : goal.store_turn-left-requires-clause-coded
store_turn-left-requires-clause-coded g c =
    let turn = c.turn-turned in
    let taken = c.loop-turn-test.true in
    let on = c.loop-turn.invariant in
    let t = turn.ensures in (
      coded_turn on _ turn.result taken t.0,
      omega (arith, t.5, taken, on.room.sources),
      λ z. c.requires.pointed_value ∙ tipped-turn on _ turn.result t.0 z,
    )

pub loop-turn-preserved : goal.loop-turn-preserved
loop-turn-preserved g c =
    let l = c.loop-turn in
    let turn = c.turn-turned in
    let t = turn.ensures in
    let d = c.store_turn-left in
    let w = c.write-far in
    walking_turn l.invariant turn.result c.loop-turn-test.true
    (record {
      here = w.result;
      between = _;
      pen = _;
      wrote = wrote_later l.later l.places w.result (held (g.V.VerticesMut.lent l.vertices) l.marks) w.ensures.0 w.ensures.1;
      turned = t.0;
      straight = t.1;
      same-pen = t.3;
      same-leading = t.4;
      drew = d.ensures.stored;
      left = d.ensures.stepped.1;
      moved = d.ensures.stepped.0;
      after = c.after-walk.ensures.0;
    })
    c.vertex-to.ensures (c.after-walk.ensures.1 t.2)
    (rw c.count-v.ensures at c.next_place-next.ensures) c.chord_to-ahead.ensures

pub returns-clause-stored : goal.returns-clause-stored
returns-clause-stored g c =
    let l = c.loop-turn in
    let w = c.write-places in
    ap (λ (x : Laid). record { stood = stood l.walk; laid = x })
    (wrote_later l.later l.places w.result (held (g.V.VerticesMut.lent l.vertices) l.marks) w.ensures.0 w.ensures.1)
    ∙ walking_done l.invariant c.loop-turn-test.false
