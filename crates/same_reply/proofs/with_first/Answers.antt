-- `with_first` meets its contract. Assumes nothing.
use mathlib.Core.Path.{sym}
use Rattle.compare.specs.Compare.{output}
use Rattle.same_reply.proofs.Pairs.{against_fails, second-read}
use Rattle.same_reply.proofs.with_first.Goals as goal

pub returns-in_default : goal.returns-in_default
returns-in_default c =
    let a = c.args in
    rw (← against_fails (output a.a.now a.a_closed a.a_flags.now) a.b.now (sym c.in_default.ensures.found)) c.refuse.ensures

pub returns : goal.returns
returns c =
    let a = c.args in
    let read = c.in-Some.ensures in
    rw (← second-read a.b.now (output a.a.now a.a_closed a.a_flags.now) (sym read.found) read.kept c.segment_count-segments.ensures) c.put_compared.ensures
