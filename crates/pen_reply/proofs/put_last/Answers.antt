-- `put_last` meets its contract. Assumes nothing.
use Rattle.pen_reply.specs.Pen.{last_line}
use Rattle.pen_reply.proofs.put_last.Goals as goal

pub returns : goal.returns
unfolding last_line
returns c = rw (← c.mark_of.ensures) c.line.ensures
