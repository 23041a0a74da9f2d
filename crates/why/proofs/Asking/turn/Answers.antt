-- `why::Asking::turn` meets its contract. Assumes nothing.
use mathlib.Core.Path.{ap}
use native.Mathlib.Omega.{arith}
use Rattle.sheet.proofs.Storing.{tip-one}
use Rattle.why.specs.InnerSteps.{Noted}
use Rattle.why.proofs.Steps.{turn-asked, note-number, notes_number}
use Rattle.why.proofs.Asking.turn.Goals as goal

pub tip-tipped-requires : goal.tip-tipped-requires
tip-tipped-requires c =
    let e = ap (λ (n : Noted). n.pen.number.0) c.note-before.ensures in
    let f = note-number _ _ _ _ _ _ c.step-half.result c.step-half.ensures in
    omega (arith, c.requires.number_bound)

pub step-whole-requires : goal.step-whole-requires
step-whole-requires c =
    let e = ap (λ (n : Noted). n.pen.number.0) c.note-before.ensures in
    let f = note-number _ _ _ _ _ _ c.step-half.result c.step-half.ensures in
    let g = notes_number _ _ _ _ _ _ c.tip-tipped.result c.tip-tipped.ensures in
    omega (arith, c.requires.number_bound, g, tip-one c.turn-turned.result.join c.turn-turned.result.connector)

pub returns : goal.returns
returns c =
    let t = c.turn-turned.ensures in (
      turn-asked _ _ _ _ c.args.self c.turn-turned.result c.after-on.result c.note-before.result c.step-half.result c.tip-tipped.result c.step-whole.result t.0 t.4 c.bulge_by-bulge.ensures
          c.bulging.ensures c.note-before.ensures c.step-half.ensures c.tip-tipped.ensures c.step-whole.ensures c.after-on.ensures.0 c.entry_after.ensures,
      c.after-on.ensures.1 t.2,
    )
