-- `sheet::draw_last` meets its contract. Assumes nothing.
use mathlib.Core.Path.{sym, ◌∙◌}
use native.Mathlib.Omega.{arith}
use Rattle.floats.proofs.Choice.{yes, no}
use Rattle.moves.specs.InnerSteps.{step_of}
use Rattle.walk.specs.InnerSteps.{last_span}
use Rattle.sheet.specs.InnerSteps.{lasts}
use Rattle.sheet.proofs.Storing.{room_fewer, span_coded, drawn-few}
use Rattle.sheet.proofs.Whole.{lasts-room, last_within}
use Rattle.sheet.proofs.draw_last.Goals as goal

pub wipe-requires : goal.wipe-requires
wipe-requires g c =
    let p = c.requires in
    record { small = p.small; from-vertex = omega arith; from-flag = omega arith; from-index = omega arith; vertices = p.vertices; flags = p.flags; indexes = p.indexes; origins = p.origins }

pub returns-then-both : goal.returns-then-both
unfolding lasts
returns-then-both g c =
    yes _ _ _ (sym (c.both.ensures ∙ rw c.is_collapsed.ensures) ∙ c.if-both.true) (rw (c.empty.ensures, c.wipe.ensures))

pub store_move-last-requires : goal.store_move-last-requires
store_move-last-requires g c =
    let p = c.requires in
    ((λ z. room_fewer (omega arith) (lasts-room p)), omega (arith, p.outputs), span_coded _ _ _ _ _ c.span_to-span.ensures p.sources)

pub finish_open-requires : goal.finish_open-requires
finish_open-requires g c =
    let last = c.store_move-last in
    let few = drawn-few 0 (step_of c.args.sheet.walk.pen c.span_to-span.result c.args.eps) in
    last_within _ 2 _ _ last.result.places _ c.requires last.ensures.stored (omega (arith, few)) (omega (arith, few))

pub returns : goal.returns
unfolding lasts last_span
returns g c =
    let last = c.store_move-last in
    no _ _ _ (sym (c.both.ensures ∙ rw c.is_collapsed.ensures) ∙ c.if-both.false)
    (rw (c.finish_open.ensures, last.ensures.stored, last.ensures.stepped.0, c.span_to-span.ensures, c.end.ensures))
