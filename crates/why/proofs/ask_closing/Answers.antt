-- `why::ask_closing` meets its contract. Assumes nothing.
use mathlib.Core.Path.{ap, ◌∙◌}
use native.Mathlib.Omega.{arith}
use Rattle.sheet.proofs.Storing.{tip-one}
use Rattle.why.specs.InnerSteps.{Noted}
use Rattle.why.proofs.Steps.{note-number, notes_number, closing-asked}
use Rattle.why.proofs.ask_closing.Goals as goal

pub tip-tipped-requires : goal.tip-tipped-requires
tip-tipped-requires c =
    let e = ap (λ (n : Noted). n.pen.number.0) c.note-before.ensures in
    let f = note-number _ _ _ _ _ _ c.step-half.result c.step-half.ensures in
    omega (arith, c.requires)

pub step-whole-requires : goal.step-whole-requires
step-whole-requires c =
    let e = ap (λ (n : Noted). n.pen.number.0) c.note-before.ensures in
    let f = note-number _ _ _ _ _ _ c.step-half.result c.step-half.ensures in
    let g = notes_number _ _ _ _ _ _ c.tip-tipped.result c.tip-tipped.ensures in
    omega (arith, c.requires, g, tip-one c.args.closing c.connector-connector.result)

pub returns : goal.returns
returns c =
    c.finish.ensures
    ∙ closing-asked c.args.closing _ _ c.args.asking c.note-before.result c.step-half.result c.tip-tipped.result c.step-whole.result c.note-before.ensures
    c.span_to-span.ensures c.connector-connector.ensures c.step-half.ensures c.tip-tipped.ensures c.step-whole.ensures
