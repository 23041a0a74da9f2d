-- The segments of a source that is lent: which places each joins, and the test of No. 5 at each. Assumes nothing.
use mathlib.Core.Path.{◌≡◌, refl}
use mathlib.Core.List.{List}
use mathlib.Core.Bool.{Bool, true, false}
use Prim.Native.Nat.{ℕ, ◌+◌, ◌≤◌, ◌<◌}
use native.Mathlib.Omega.{arith}
use borrow.Author.Tests.{ltb-true, ltb-false}
use lib.Dec.{ltb}
use lib.ListN.{length, get_or}
use Rattle.floats.specs.Choice.{when◌give◌else◌}
use Rattle.segments.specs.declared.PlineVertex.{PlineVertex}
use Rattle.source.specs.Source.{segments_of, around}
use Rattle.refusals.specs.Limits.{repeats, repeat_tests}
use Rattle.refusals.specs.Rows.{VertexIs, Joined, next, closing}
use Rattle.source.specs.InnerSteps.{vertex_of, next_of}
use Rattle.refusals.proofs.First.{by_test}
use Rattle.source.proofs.Segments.{segments-closed, segments_open, next_on, next_back}
use Rattle.source.proofs.Source.{vertex-is}
use Rattle.refusals.proofs.Tests.{neighbour_length, closed-length}
use Rattle.refusals.proofs.Joined.{joined_test}

module _ (vs : List PlineVertex) (v : ℕ) (long : v ≡ length vs) (two : 2 ≤ v) where
  at : (k : ℕ) → k < v → VertexIs vs k (vertex_of vs k)
  at k h = record { there = omega arith; is = vertex-is vs k (vertex_of vs k) (omega arith) }

  onward : (closed : Bool) (k : ℕ) → k + 1 < v → Joined closed vs k (vertex_of vs k) (vertex_of vs (next_of v k))
  onward closed k h = rw (next_on v k h) (next (at k (omega arith)) (at (k + 1) h))

  back : (closed : Bool) (k : ℕ) → k < segments_of closed v → v ≤ k + 1 → Joined closed vs k (vertex_of vs k) (vertex_of vs (next_of v k))
  back false k h e = absurd (omega (arith, segments_open v two))
  back true k h e =
      let n : k < v = omega (arith, segments-closed v two) in
      rw (next_back v k e) (closing refl (omega arith) (at k n) (at 0 (omega arith)))

  pub segment_joins : (closed : Bool) (k : ℕ) → k < segments_of closed v → Joined closed vs k (vertex_of vs k) (vertex_of vs (next_of v k))
  segment_joins closed k h =
      by_test (ltb (k + 1) v) (λ (t : ltb (k + 1) v ≡ true). onward closed k (ltb-true (k + 1) v t))
      (λ (t : ltb (k + 1) v ≡ false). back closed k h (ltb-false (k + 1) v t))

  pub segment_test : (closed : Bool) (k : ℕ) → k < segments_of closed v → get_or (repeat_tests closed vs) k false ≡ repeats (vertex_of vs k) (vertex_of vs (next_of v k))
  segment_test closed k h = joined_test vs closed (segment_joins closed k h)

  pub neighbour_test : (closed : Bool) (k : ℕ) → k + 1 < v → get_or (repeat_tests closed vs) k false ≡ repeats (vertex_of vs k) (vertex_of vs (k + 1))
  neighbour_test closed k h = joined_test vs closed (next (at k (omega arith)) (at (k + 1) h))

  pub segment_tests : (closed : Bool) → length (repeat_tests closed vs) ≡ segments_of closed v
  unfolding repeat_tests
  segment_tests true =
      rw (neighbour_length (around true vs), closed-length vs (omega arith), segments-closed v two) (omega arith)
  segment_tests false =
      unfold around when◌give◌else◌ in
      rw (neighbour_length vs, ← long, segments_open v two)

  pub no-more-segments : (closed : Bool) (k : ℕ) → segments_of closed v ≤ k → length (repeat_tests closed vs) ≤ k
  no-more-segments closed k h = rw (segment_tests closed) h
