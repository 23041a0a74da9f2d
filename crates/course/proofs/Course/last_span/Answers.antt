-- `course::Course::last_span` meets its contract. Assumes nothing.
use Prim.Native.Nat.{◌<◌}
use native.Mathlib.Omega.{arith}
use Rattle.sheet.proofs.Storing.{span_coded}
use Rattle.course.proofs.Strokes.{last-span-is, pen-number, source-number, stepped_coded}
use Rattle.course.proofs.Course.last_span.Goals as goal

pub step-span-requires : goal.step-span-requires
step-span-requires c =
    let e = pen-number _ _ c.walk-walk.result c.walk-walk.ensures.0 in
    omega (arith, c.requires.2)

pub returns : goal.returns
returns c =
    let e = source-number _ _ c.walk-walk.result c.walk-walk.ensures.0 in
    let k : c.walk-walk.result.source.0 < 0x8000_0000 = omega (arith, c.requires.1) in (
      rw c.then_some-last.ensures (last-span-is _ _ c.walk-walk.result c.step-span.result c.walk-walk.ensures.0 c.end.ensures c.span_to-end.ensures c.step-span.ensures c.from_vector2-vertex.ensures),
      rw c.step-span.ensures (stepped_coded _ _ _ (span_coded _ _ _ _ _ c.span_to-end.ensures k)),
    )
