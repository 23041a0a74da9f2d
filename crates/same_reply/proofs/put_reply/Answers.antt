-- `put_reply` meets its contract. Assumes nothing.
use native.Mathlib.Omega.{arith}
use Rattle.same_reply.proofs.Pairs.{cut_off, parted}
use Rattle.same_reply.proofs.put_reply.Goals as goal

pub returns-then-all-lt-LENGTH_BYTES : goal.returns-then-all-lt-LENGTH_BYTES
returns-then-all-lt-LENGTH_BYTES c = rw (← cut_off c.args.bytes.now (omega arith)) c.refuse.ensures

pub returns-then-n-all : goal.returns-then-n-all
returns-then-n-all c = rw (← cut_off c.args.bytes.now (omega arith)) c.refuse-then-n-all.ensures

pub returns : goal.returns
returns c = rw (← parted c.args.bytes.now c.big_endian-n.ensures (omega arith)) c.pair.ensures
