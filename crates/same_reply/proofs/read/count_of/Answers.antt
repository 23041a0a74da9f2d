-- `read::count_of` meets its contract. Assumes nothing.
use native.Mathlib.Omega.{arith}
use Rattle.same_reply.proofs.Reading.{counting_none, counting_stop, counting_turn, counting_done, below}
use Rattle.same_reply.proofs.read.count_of.Goals as goal

pub loop-k-init : goal.loop-k-init
loop-k-init c = counting_none

pub returns-then-c-eq32 : goal.returns-then-c-eq32
returns-then-c-eq32 c =
    let at = c.loop-k in
    record {
      value = counting_stop at.invariant c.loop-k-test.true c.byte_at-c.ensures c.if-c-eq32.true;
      upper_bound = below at.n at.k at.invariant.small at.invariant.within;
    }

pub overflow_mul-n : goal.overflow_mul-n
overflow_mul-n c =
    let at = c.loop-k in
    omega (arith, below at.n at.k at.invariant.small at.invariant.within)

pub overflow_add-n : goal.overflow_add-n
overflow_add-n c =
    let at = c.loop-k in
    omega (arith, below at.n at.k at.invariant.small at.invariant.within)

pub loop-k-preserved : goal.loop-k-preserved
loop-k-preserved c =
    counting_turn c.loop-k.invariant c.loop-k-test.true c.byte_at-c.ensures c.if-c-eq32.false c.digit_of.ensures.value c.digit_of.ensures.upper_bound

pub returns : goal.returns
returns c =
    let at = c.loop-k in
    record {
      value = counting_done at.invariant c.loop-k-test.false;
      upper_bound = below at.n at.k at.invariant.small at.invariant.within;
    }
