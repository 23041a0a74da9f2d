-- `sheet::finish_open` meets its contract. Assumes nothing.
use native.Mathlib.Omega.{arith}
use borrow.Author.Tests.{eq-eqb, ne_eqb}
use Rattle.floats.proofs.Choice.{yes, no}
use Rattle.moves.proofs.Finite.{doubt-more}
use Rattle.sheet.specs.InnerSteps.{finishes_open}
use lib.ListN.{length-set}
use Rattle.sheet.proofs.finish_open.Goals as goal

pub wipe-requires : goal.wipe-requires
wipe-requires g c =
    let p = c.requires in
    record { small = p.small; from-vertex = omega arith; from-flag = omega arith; from-index = omega arith; vertices = p.vertices; flags = p.flags; indexes = p.indexes; origins = p.origins }

pub returns-then-k-eq0 : goal.returns-then-k-eq0
unfolding finishes_open
returns-then-k-eq0 g c =
    yes _ _ _ (eq-eqb _ _ c.if-k-eq0.true) (rw (c.empty.ensures, c.wipe.ensures))

pub put-requires : goal.put-requires
put-requires g c = let p = c.requires in omega (arith, p.from-vertex, p.vertices)

pub finish-requires : goal.finish-requires
finish-requires g c =
    let p = c.requires in
    record { small = p.small; from-vertex = p.from-vertex; from-flag = p.from-flag; from-index = p.from-index; vertices = rw c.put.ensures (simp length-set p.vertices); flags = p.flags; indexes = p.indexes; origins = p.origins }

pub returns : goal.returns
unfolding finishes_open
returns g c =
    no _ _ _ (ne_eqb _ _ c.if-k-eq0.false)
    (rw (c.finish.ensures, c.put.ensures, c.doubt.ensures, doubt-more, c.from_vector2-last.ensures))
