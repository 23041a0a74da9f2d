-- `compare::Fields::any` meets its contract. Assumes nothing.
use native.Mathlib.Omega.{arith}
use Rattle.floats.proofs.Same.{choices}
use Rattle.compare.specs.Compare.{any_of}
use Rattle.compare.proofs.Fields.any.Goals as goal

pub returns-then-self-3 : goal.returns-then-self-3
unfolding any_of
returns-then-self-3 c = grind (arith, choices)

pub returns-else-self-3 : goal.returns-else-self-3
unfolding any_of
returns-else-self-3 c = grind (arith, choices)
