-- `read::hexadecimal` meets its contract. Assumes nothing.
use native.Mathlib.Omega.{arith}
use Rattle.same_reply.proofs.Reading.{spelt_none, spelt_turn, spelt_done, room}
use Rattle.same_reply.proofs.read.hexadecimal.Goals as goal

pub loop-k-init : goal.loop-k-init
loop-k-init c = spelt_none

pub overflow_mul-value : goal.overflow_mul-value
overflow_mul-value c =
    let at = c.loop-k in
    omega (arith, room at.value 0 at.k at.invariant.small (omega arith) (omega arith))

pub overflow_add-value : goal.overflow_add-value
overflow_add-value c =
    let at = c.loop-k in
    omega (arith, room at.value c.digit_of.result at.k at.invariant.small c.digit_of.ensures.upper_bound (omega arith))

pub loop-k-preserved : goal.loop-k-preserved
loop-k-preserved c =
    spelt_turn c.loop-k.invariant c.loop-k-test.true c.byte_at.ensures c.digit_of.ensures.value c.digit_of.ensures.upper_bound

pub returns : goal.returns
returns c = spelt_done c.loop-k.invariant c.loop-k-test.false
