-- `sheet::clear_vertices` meets its contract. Assumes nothing.
use mathlib.Core.Path.{◌≡◌, refl, sym, ◌∙◌}
use Prim.Native.Nat.{◌+◌, ◌-◌}
use native.Mathlib.Omega.{arith}
use lib.ListN.{length-replicate, get_or-replicate}
use Rattle.sheet.specs.InnerSteps.{blank}
use Rattle.sheet.proofs.Writing.{putting_none, putting_turn, putting_done}
use Rattle.sheet.proofs.clear_vertices.Goals as goal

pub loop-k-init : goal.loop-k-init
loop-k-init g c = let z : c.args.from - c.args.from ≡ 0 = omega arith in (rw z putting_none, refl)

pub put-requires : goal.put-requires
put-requires g c = omega (arith, c.loop-k.invariant.0.made.long, c.requires.1, c.loop-k-test.true)

pub loop-k-preserved : goal.loop-k-preserved
loop-k-preserved g c =
    let l = c.loop-k in
    let n = c.args.end - c.args.from in
    let j = l.k - c.args.from in
    let here : c.args.from + j ≡ l.k = omega arith in
    let next : l.k + 1 - c.args.from ≡ j + 1 = omega arith in (
      rw next (putting_turn blank l.invariant.0 (c.put.ensures ∙ rw (here, l.invariant.1, get_or-replicate n j blank blank (omega (arith, c.loop-k-test.true)))) (omega (arith, c.loop-k-test.true)) (sym (length-replicate n blank))
          (omega (arith, c.requires.0, c.requires.1))),
      l.invariant.1,
    )

pub returns : goal.returns
returns g c =
    putting_done c.loop-k.invariant.0 (omega (arith, c.loop-k-test.false, c.requires.0)) (sym (length-replicate _ blank))
