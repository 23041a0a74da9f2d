-- `reply_by` meets its contract. Assumes nothing.
use mathlib.Core.Path.{sym}
use native.Mathlib.Omega.{arith}
use lib.Ieee.{Float}
use lib.Seq.{length-take-le}
use Rattle.packed.proofs.Bytes.{decoded-room}
use Rattle.reply.proofs.Decodings.{refused, worked}
use Rattle.reply.proofs.reply_by.Goals as goal

pub returns-in_default : goal.returns-in_default
returns-in_default c = rw (refused c.args.asked _ _ _ c.decode.ensures c.in_default.is) c.refuse.ensures

pub overflow_mul-source : goal.overflow_mul-source
overflow_mul-source c = omega (arith, decoded-room _ _ _ c.decode.ensures c.in-Some.is)

pub slice_bounds-source-end : goal.slice_bounds-source-end
slice_bounds-source-end c = omega (arith, decoded-room _ _ _ c.decode.ensures c.in-Some.is)

pub slice_bounds-numbers-end : goal.slice_bounds-numbers-end
slice_bounds-numbers-end c = sym (length-take-le _ _ (omega (arith, decoded-room _ _ _ c.decode.ensures c.in-Some.is)))

pub work-requires-clause-source : goal.work-requires-clause-source
work-requires-clause-source c =
    omega (arith, decoded-room _ _ _ c.decode.ensures c.in-Some.is, length-take-le {A = Float})

pub returns : goal.returns
returns c = rw (worked _ _ _ _ c.decode.ensures c.in-Some.is) c.work.ensures
