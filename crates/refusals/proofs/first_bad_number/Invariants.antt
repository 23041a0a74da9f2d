-- `first_bad_number`: the loop keeps that the search from its place on gives what the search of all tests gives. Assumes nothing.
use mathlib.Core.Path.{◌≡◌}
use Rattle.source.specs.Source.{vertices_in}
use Rattle.refusals.specs.Limits.{number_tests, first_of}
use Rattle.refusals.proofs.First.{rest}
use Rattle.refusals.proofs.first_bad_number.Given as goal

abbrev pub invariant-loop-k : goal.invariant-loop-k
invariant-loop-k g l =
    let tests = number_tests (vertices_in (g.S.Vertices.lent l.source)) l.settings in rest l.k tests ≡ first_of tests
