-- `pair` meets its contract. Assumes nothing.
use mathlib.Core.Path.{sym}
use Rattle.same_reply.proofs.Pairs.{first_fails, first_read}
use Rattle.same_reply.proofs.pair.Goals as goal

pub returns-in_default : goal.returns-in_default
returns-in_default c = rw (← first_fails c.args.a.now c.args.b.now (sym c.in_default.ensures.found)) c.refuse.ensures

pub returns : goal.returns
returns c =
    let read = c.in-Some.ensures in
    rw (← first_read c.args.b.now c.args.a.now (sym read.found) read.kept c.segment_count-segments.ensures) c.with_first.ensures
