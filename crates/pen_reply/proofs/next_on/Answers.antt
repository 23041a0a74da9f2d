-- `next_on` meets its contract. Assumes nothing.
use Rattle.pen_reply.proofs.Steps.{next-end, next-vertex, next-malformed}
use Rattle.pen_reply.proofs.next_on.Goals as goal

pub returns-then-bytes-eq0 : goal.returns-then-bytes-eq0
returns-then-bytes-eq0 c =
    let e = next-end c.args.job c.args.bytes.now c.if-bytes-eq0.true in
    record {
      step = rw e c.end.ensures.step;
      text = rw e c.end.ensures.text;
    }

pub returns-then-bytes-eq24 : goal.returns-then-bytes-eq24
returns-then-bytes-eq24 c =
    let e = next-vertex c.args.job c.args.bytes.now c.if-bytes-eq0.false c.if-bytes-eq24.true in
    record {
      step = rw e c.draw.ensures.step;
      text = rw e c.draw.ensures.text;
    }

pub returns : goal.returns
returns c =
    let e = next-malformed c.args.job c.args.bytes.now c.if-bytes-eq0.false c.if-bytes-eq24.false in
    record {
      step = rw e (rw (c.number.ensures, c.place.ensures) at c.refused.ensures.step);
      text = rw e (rw (c.number.ensures, c.place.ensures) at c.refused.ensures.text);
    }
