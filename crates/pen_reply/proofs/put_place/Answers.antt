-- `put_place` meets its contract. Assumes nothing.
use native.Mathlib.Omega.{arith}
use Rattle.source.specs.Source.{vertices_of}
use Rattle.source.proofs.Source.{length-vertices}
use Rattle.packed.proofs.Writing.{writes_none}
use Rattle.pen_reply.proofs.Rows.{at-segment, at_last, at_none}
use Rattle.pen_reply.proofs.put_place.Goals as goal

pub vertex_at-v-requires : goal.vertex_at-v-requires
vertex_at-v-requires c = omega (arith, length-vertices c.args.vertices.now)

pub returns-then-i-answer : goal.returns-then-i-answer
returns-then-i-answer c =
    let a = c.args in
    let e = at-segment a.answer (vertices_of a.vertices.now) a.flags.now a.origins.now a.i c.if-i-answer.true c.vertex_at-v.ensures c.from.ensures in
    rw (← e) c.put_segment.ensures

pub returns-then-i-answer-2 : goal.returns-then-i-answer-2
returns-then-i-answer-2 c =
    let a = c.args in
    let e = at_last a.answer (vertices_of a.vertices.now) a.flags.now a.origins.now a.i c.if-i-answer.false c.if-i-answer-2.true c.vertex_at-v.ensures in
    rw (← e) c.put_last.ensures

pub returns-else-i-answer-2 : goal.returns-else-i-answer-2
returns-else-i-answer-2 c =
    let a = c.args in
    let e = at_none a.answer (vertices_of a.vertices.now) a.flags.now a.origins.now a.i c.if-i-answer.false c.if-i-answer-2.false in
    rw (← e) (writes_none (omega arith))
