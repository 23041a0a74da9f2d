-- `fill` meets its contract. Assumes nothing.
use mathlib.Core.Path.{◌≡◌, refl, sym, ap, ◌∙◌}
use native.Mathlib.Numerals.{add-one}
use native.Mathlib.Omega.{arith}
use lib.ListN.{length}
use lib.Seq.{take_all, take-suc-set}
use Rattle.packed.specs.Packed.{numbers_of}
use Rattle.packed.proofs.unpacked.fill.Goals as goal

pub loop-k-init : goal.loop-k-init
unfolding numbers_of
loop-k-init c = refl

pub loop-k-preserved : goal.loop-k-preserved
unfolding numbers_of
loop-k-preserved c =
    let at = c.loop-k in
    let x = c.number_at in
    rw (add-one, ← at.invariant, ← x.ensures) (take-suc-set at.numbers at.k x.result (omega arith))

pub returns : goal.returns
returns c =
    let at = c.loop-k in
    let e : at.k ≡ length c.args.numbers.now = omega arith in
    sym (take_all at.k at.numbers (omega (arith, at.auto.numbers))) ∙ at.invariant ∙ ap (numbers_of c.args.bytes.now) e
