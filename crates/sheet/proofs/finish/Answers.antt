-- `sheet::finish` meets its contract. Assumes nothing.
use mathlib.Core.Path.{sym, ap, ◌∙◌}
use native.Mathlib.Omega.{arith}
use Rattle.floats.proofs.Choice.{yes, no}
use Rattle.sheet.specs.InnerSteps.{finishes, finished}
use Rattle.std.specs.Prelude.{Some, None}
use Rattle.sheet.proofs.finish.Goals as goal

pub wipe-requires : goal.wipe-requires
wipe-requires g c = c.requires

pub returns-then-all_finite : goal.returns-then-all_finite
unfolding finishes
returns-then-all_finite g c =
    yes _ _ _ (sym c.all_finite.ensures ∙ c.if-all_finite.true) (ap (finished (Some _)) c.wipe.ensures)

pub wipe-requires-2 : goal.wipe-requires-2
wipe-requires-2 g c =
    let p = c.requires in
    record { small = p.small; from-vertex = omega arith; from-flag = omega arith; from-index = omega arith; vertices = p.vertices; flags = p.flags; indexes = p.indexes; origins = p.origins }

pub returns : goal.returns
unfolding finishes
returns g c =
    no _ _ _ (sym c.all_finite.ensures ∙ c.if-all_finite.false) (ap (finished None) c.wipe-2.ensures)
