-- `halve_all` meets its contract. Assumes nothing.
use mathlib.Core.Path.{refl, ◌∙◌}
use native.Mathlib.Omega.{arith}
use Rattle.std.proofs.Math.ListN.{length-map}
use Rattle.angles.proofs.Halved.{halved_upto, halved_next, all_halved}
use Rattle.angles.proofs.halve_all.Goals as goal

pub loop-halving-init : goal.loop-halving-init
unfolding halved_upto
loop-halving-init g c = refl

pub loop-halving-preserved : goal.loop-halving-preserved
loop-halving-preserved g c = halved_next _ _ _ _ _ (omega arith) c.loop-halving.invariant c.halve.ensures

pub returns : goal.returns
returns g c = c.loop-halving.invariant ∙ all_halved _ _ (rw length-map (omega arith))
