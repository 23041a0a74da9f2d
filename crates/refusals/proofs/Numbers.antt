-- The tests of No. 3 over a source that is lent: where the search stops, and where it goes on. Assumes nothing.
use mathlib.Core.Path.{◌≡◌, ◌∙◌, ap}
use mathlib.Core.List.{List}
use mathlib.Core.Bool.{false, not}
use Prim.Native.Nat.{ℕ, ◌+◌, ◌≤◌, ◌<◌}
use native.Mathlib.Omega.{arith}
use lib.ListN.{length, get_or}
use Rattle.segments.specs.declared.PlineVertex.{PlineVertex}
use Rattle.segments.specs.declared.Settings.{Settings}
use Rattle.refusals.specs.Limits.{good_vertex, good_offset, good_eps, good_corners, number_tests}
use Rattle.source.specs.InnerSteps.{vertex_of}
use Rattle.source.proofs.Source.{vertex-is}
use Rattle.refusals.proofs.Tests.{number-length, number-vertex, number-offset, number-eps, number-ratio}

module _ (vs : List PlineVertex) (v : ℕ) (σ : Settings) (long : v ≡ length vs) where
  pub vertex_test : (k : ℕ) → k < v → get_or (number_tests vs σ) k false ≡ not (good_vertex (vertex_of vs k))
  vertex_test k h = number-vertex σ vs k (vertex_of vs k) (omega arith) ∙ ap (λ w. not (good_vertex w)) (vertex-is vs k (vertex_of vs k) (omega arith))

  pub offset_test : get_or (number_tests vs σ) v false ≡ not (good_offset σ.offset)
  offset_test = rw long (number-offset σ vs)

  pub eps_test : get_or (number_tests vs σ) (v + 1) false ≡ not (good_eps σ.eps)
  eps_test = rw long (number-eps σ vs)

  pub ratio_test : get_or (number_tests vs σ) (v + 1 + 1) false ≡ not (good_corners σ.corners)
  ratio_test = let e : v + 1 + 1 ≡ length vs + 2 = omega arith in rw e (number-ratio σ vs)

  pub no-more_tests : length (number_tests vs σ) ≤ v + 1 + 1 + 1
  no-more_tests = rw (number-length σ vs) (omega arith)
