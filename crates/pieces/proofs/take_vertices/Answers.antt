-- `pieces::take_vertices` meets its contract. Assumes nothing.
use native.Mathlib.Omega.{arith}
use Rattle.pieces.proofs.Went.{going_none, going_one, going_done, ready-one}
use Rattle.pieces.proofs.take_vertices.Goals as goal

pub loop-k-init : goal.loop-k-init
loop-k-init g c = rw c.count-k-end.ensures (going_none c.requires)

pub vertex-c-requires : goal.vertex-c-requires
vertex-c-requires g c = omega (arith, c.loop-k-test.true, c.count-k-end.ensures)

pub take_vertex-taken-requires : goal.take_vertex-taken-requires
take_vertex-taken-requires g c = ready-one c.loop-k.invariant.ready (omega (arith, c.loop-k-test.true))

pub loop-k-preserved : goal.loop-k-preserved
loop-k-preserved g c =
    going_one c.loop-k.invariant _ c.count-k-end.ensures c.loop-k-test.true c.vertex-c.ensures c.take_vertex-taken.ensures

pub returns : goal.returns
returns g c = going_done c.loop-k.invariant c.count-k-end.ensures c.loop-k-test.false
