-- `read::read_flags` meets its contract. Assumes nothing.
use mathlib.Core.List.{◌++◌}
use mathlib.Core.Path.{◌≡◌, refl, sym, ap, ◌∙◌}
use native.Mathlib.Numerals.{add-one}
use native.Mathlib.Omega.{arith}
use lib.ListN.{drop, length-take}
use lib.Seq.{take_all, take-suc-set}
use Rattle.same_reply.specs.Read.{flags_at}
use Rattle.same_reply.proofs.read.read_flags.Goals as goal

pub loop-k-init : goal.loop-k-init
unfolding flags_at
loop-k-init c = refl

pub loop-k-preserved : goal.loop-k-preserved
unfolding flags_at
loop-k-preserved c =
    let at = c.loop-k in
    rw (add-one, ← at.invariant, ← c.byte_at.ensures, ← c.flag_of.ensures) (take-suc-set at.flag-items at.k c.flag_of.result (omega arith))

pub returns : goal.returns
returns c =
    let a = c.args in
    let at = c.loop-k in
    let n : at.k ≡ a.count = omega (arith, length-take a.count a.flags.now) in
    let flags = sym (take_all at.k at.flag-items (omega (arith, at.auto.flag-items))) ∙ at.invariant ∙ ap (flags_at a.bytes.now a.i) n in
    ap (λ fs. fs ++ drop a.count a.flags.now) flags
