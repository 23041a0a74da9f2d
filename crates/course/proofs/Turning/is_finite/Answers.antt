-- `course::Turning::is_finite` meets its contract. Assumes nothing.
use native.Mathlib.Omega.{arith}
use Rattle.floats.proofs.Same.{choices}
use Rattle.course.proofs.Strokes.{finite-three}
use Rattle.course.proofs.Turning.is_finite.Goals as goal

pub returns-then-is_finite-2 : goal.returns-then-is_finite-2
returns-then-is_finite-2 c = rw (finite-three c.args.self) (grind (arith, choices))

pub returns-else-is_finite-2 : goal.returns-else-is_finite-2
returns-else-is_finite-2 c = rw (finite-three c.args.self) (grind (arith, choices))
