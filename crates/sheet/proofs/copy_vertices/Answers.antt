-- `sheet::copy_vertices` meets its contract. Assumes nothing.
use mathlib.Core.Path.{◌∙◌}
use native.Mathlib.Omega.{arith}
use native.Mathlib.Nat.{zero-add}
use Rattle.std.specs.Float.{nan}
use Rattle.source.specs.InnerSteps.{vertex_of}
use Rattle.sheet.proofs.Writing.{putting_none, putting_turn, putting_done}
use Rattle.sheet.proofs.copy_vertices.Goals as goal

pub loop-k-init : goal.loop-k-init
loop-k-init g c = putting_none

pub put-requires : goal.put-requires
put-requires g c =
    omega (arith, c.loop-k.invariant.made.long, c.requires, c.loop-k-test.true, c.count-k-end.ensures)

pub loop-k-preserved : goal.loop-k-preserved
unfolding vertex_of
loop-k-preserved g c =
    putting_turn (record { x = nan; y = nan; bulge = nan }) c.loop-k.invariant (c.put.ensures ∙ rw (c.vertex.ensures, zero-add)) c.loop-k-test.true c.count-k-end.ensures
    (omega (arith, c.requires, c.count-k-end.ensures))

pub returns : goal.returns
returns g c =
    putting_done c.loop-k.invariant c.loop-k-test.false c.count-k-end.ensures ∙ rw (c.count-k-end.ensures, zero-add)
