-- `all_apart` meets its contract. Assumes nothing.
use mathlib.Core.Path.{◌≡◌}
use mathlib.Core.Bool.{true}
use Rattle.source.specs.Source.{vertices_in}
use Rattle.refusals.specs.InnerSteps.{ApartBefore}
use Rattle.refusals.proofs.all_apart.Given as goal

abbrev pub invariant-loop-k : goal.invariant-loop-k
invariant-loop-k g l = l.all ≡ true → ApartBefore (vertices_in (g.S.Vertices.lent l.source)) l.k
