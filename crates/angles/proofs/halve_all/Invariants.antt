-- `halve_all`: the loop has halved each tangent before the index. Assumes nothing.
use mathlib.Core.Path.{◌≡◌}
use Rattle.angles.specs.InnerSteps.{tangents}
use Rattle.angles.proofs.Halved.{halved_upto}
use Rattle.angles.proofs.halve_all.Given as goal

abbrev pub invariant-loop-halving : goal.invariant-loop-halving
invariant-loop-halving g l = tangents l.halvings ≡ halved_upto l.halving-index (tangents l.fn.halvings)
