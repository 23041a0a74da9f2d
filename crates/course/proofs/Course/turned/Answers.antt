-- `course::Course::turned` meets its contract. Assumes nothing.
use native.Mathlib.Omega.{arith}
use Rattle.sheet.proofs.Storing.{tip-one, row_number}
use Rattle.course.specs.InnerSteps.{strokes_in}
use Rattle.course.proofs.Strokes.{pen-number, source-number, vertex-held, stepped-number, stepped_coded, span-origin, connector-origin, turn-strokes, turn_left}
use Rattle.course.proofs.Course.turned.Goals as goal

pub turn-turned-requires : goal.turn-turned-requires
turn-turned-requires c =
    let walk = c.walk-walk in
    let e = source-number _ _ walk.result walk.ensures.0 in
    let able = c.requires.1 in
    record {
      source_bound = omega (arith, able.taken);
      fit = (walk.ensures.1, able.told);
      carries = rw (vertex-held _ _ walk.result walk.ensures.0) c.anew-ahead.ensures;
    }

pub step-span-requires : goal.step-span-requires
step-span-requires c =
    let able = c.requires.1 in
    let e = pen-number _ _ c.walk-walk.result c.walk-walk.ensures.0 in
    omega (arith, able.taken, able.number)

pub step_to_tip-tip-requires : goal.step_to_tip-tip-requires
step_to_tip-tip-requires c =
    let able = c.requires.1 in
    let e = pen-number _ _ c.walk-walk.result c.walk-walk.ensures.0 in
    let n = stepped-number _ _ _ c.step-span.result c.step-span.ensures in
    (omega (arith, able.taken, able.number), connector-origin _ _ c.walk-walk.result c.turn-turned.result c.walk-walk.ensures.0 c.turn-turned.ensures.5 able.taken)

pub step-connector-requires : goal.step-connector-requires
step-connector-requires c =
    let able = c.requires.1 in
    let t = c.turn-turned.result in
    let e = pen-number _ _ c.walk-walk.result c.walk-walk.ensures.0 in
    let n = stepped-number _ _ _ c.step-span.result c.step-span.ensures in
    let m = row_number _ _ _ c.step_to_tip-tip.ensures.1 in
    omega (arith, able.taken, able.number, tip-one t.join t.connector)

pub returns : goal.returns
unfolding strokes_in
returns c =
    let at = c.walk-walk.ensures.0 in
    let t = c.turn-turned.ensures.0 in
    let b = c.bulge_by-bulge.ensures in
    let s = c.bulging.ensures in
    let one = c.step-span.ensures in
    let tip = c.step_to_tip-tip.ensures in
    let able = c.requires.1 in
    let three = c.step-connector.ensures in (
      turn-strokes _ _ _ c.walk-walk.result c.turn-turned.result c.step-span.result c.step_to_tip-tip.result c.step-connector.result at t b s one (tip.0, tip.1) three,
      turn_left _ _ _ c.walk-walk.result c.turn-turned.result c.step-span.result c.step_to_tip-tip.result c.step-connector.result at t b s one (tip.0, tip.1) three c.left_at-course.ensures,
      record {
        span = rw (one, s) (stepped_coded _ _ _ (span-origin _ _ _ c.walk-walk.result c.turn-turned.result at t able.taken));
        tip = tip.2;
        connector = rw three (stepped_coded _ _ _ (connector-origin _ _ c.walk-walk.result c.turn-turned.result at c.turn-turned.ensures.5 able.taken));
      },
    )
