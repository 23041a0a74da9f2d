-- `put_segment` meets its contract. Assumes nothing.
use native.Mathlib.Omega.{arith}
use Rattle.packed.specs.Text.{space}
use Rattle.packed.proofs.Lines.{length-row}
use Rattle.packed.proofs.Writing.{room_left, writes_more}
use Rattle.pen_reply.specs.Pen.{segment_line}
use Rattle.pen_reply.proofs.put_segment.Goals as goal

pub origin-requires : goal.origin-requires
origin-requires c =
    let v = c.args.v in
    room_left c.line.ensures 53 31 (omega (arith, length-row v.x v.y v.bulge c.mark_of.result space)) (omega arith)

pub returns : goal.returns
unfolding segment_line
returns c = rw (← c.mark_of.ensures) (writes_more c.line.ensures c.origin.ensures)
