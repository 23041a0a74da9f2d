-- `put_reply_about` meets its contract. Assumes nothing.
use mathlib.Core.Path.{sym}
use native.Mathlib.Omega.{arith}
use lib.Seq.{length-take-le}
use Rattle.packed.proofs.Bytes.{decoded-room}
use Rattle.why_reply.proofs.Replies.{refused, worked}
use Rattle.why_reply.proofs.put_reply_about.Goals as goal

pub overflow_mul-source : goal.overflow_mul-source
overflow_mul-source c = omega (arith, decoded-room _ _ _ c.decode.ensures c.in-Some.is)

pub slice_bounds-source-end : goal.slice_bounds-source-end
slice_bounds-source-end c = omega (arith, decoded-room _ _ _ c.decode.ensures c.in-Some.is)

pub slice_bounds-numbers-end : goal.slice_bounds-numbers-end
slice_bounds-numbers-end c = sym (length-take-le _ _ (omega (arith, decoded-room _ _ _ c.decode.ensures c.in-Some.is)))

pub returns-in_default : goal.returns-in_default
returns-in_default c = rw (refused _ _ c.decode.ensures _ c.in_default.is) c.refuse.ensures

pub returns : goal.returns
returns c = rw (worked _ _ c.decode.ensures _ c.in-Some.is) c.tell.ensures
