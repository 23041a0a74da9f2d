-- `read::read_numbers` meets its contract. Assumes nothing.
use mathlib.Core.Path.{◌≡◌, refl, ◌∙◌}
use Prim.Native.Nat.{◌+◌, ◌*◌}
use native.Mathlib.Numerals.{add-one}
use native.Mathlib.Omega.{arith}
use lib.ListN.{length}
use Rattle.packed.proofs.Writing.{sets_append}
use Rattle.same_reply.specs.Read.{numbers_at}
use Rattle.same_reply.proofs.Reading.{length-numbers, placed}
use Rattle.same_reply.proofs.read.read_numbers.Goals as goal

pub loop-k-init : goal.loop-k-init
unfolding numbers_at
loop-k-init c = refl

pub loop-k-preserved : goal.loop-k-preserved
unfolding numbers_at
loop-k-preserved c =
    let a = c.args in
    let at = c.loop-k in
    let before = numbers_at a.bytes.now a.i at.k in
    let place : 3 * at.k ≡ 0 + length before = omega (arith, length-numbers a.bytes.now a.i at.k) in
    rw (add-one, sets_append, ← place, ← at.invariant) c.put_numbers.ensures

pub returns : goal.returns
returns c =
    let a = c.args in
    let n : c.loop-k.k ≡ a.count = omega arith in
    rw n at c.loop-k.invariant
    ∙ placed (numbers_at a.bytes.now a.i a.count) a.numbers.now (3 * a.count) (length-numbers a.bytes.now a.i a.count) (omega arith)
