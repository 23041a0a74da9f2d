-- `horner_walk`: the loop keeps that the steps still to come give the table's value. Assumes nothing.
use mathlib.Core.Path.{◌≡◌}
use lib.ListN.{drop}
use lib.Ieee.{Float}
use Rattle.std.specs.List.{fold}
use Rattle.angles.specs.Angle.{horner_step, horner}
use Rattle.angles.proofs.horner_walk.Given as goal

abbrev pub invariant-loop-c : goal.invariant-loop-c
invariant-loop-c l = fold (λ (a c : Float). horner_step a c l.x) l.a (drop l.c-index l.rest) ≡ horner l.table l.x
