-- `first_repeated`: the loop keeps that the search from its place on gives what the search of all tests gives. Assumes nothing.
use mathlib.Core.Path.{◌≡◌}
use Rattle.source.specs.Source.{vertices_in}
use Rattle.refusals.specs.Limits.{repeat_tests, first_of}
use Rattle.refusals.proofs.First.{rest}
use Rattle.refusals.proofs.first_repeated.Given as goal

abbrev pub invariant-loop-earlier : goal.invariant-loop-earlier
invariant-loop-earlier g l =
    let tests = repeat_tests l.closed (vertices_in (g.S.Vertices.lent l.source)) in rest l.earlier tests ≡ first_of tests
