-- Vertices that a segment joins are what No. 5 tests at the segment's place, and all that it tests. Assumes nothing.
use mathlib.Core.Path.{◌≡◌, sym, ◌∙◌}
use mathlib.Core.List.{List}
use mathlib.Core.Bool.{Bool, true, false}
use Prim.Native.Nat.{ℕ, ◌+◌, ◌<◌}
use native.Mathlib.Omega.{arith}
use lib.ListN.{length, get_or}
use Rattle.segments.specs.declared.PlineVertex.{PlineVertex}
use Rattle.source.specs.Source.{around}
use Rattle.refusals.specs.Limits.{repeats, repeat_tests}
use Rattle.refusals.specs.Rows.{Joined, next, closing}
use Rattle.refusals.proofs.Tests.{neighbour_at, around-length, around_here, closed-length, closed-last}

module _ (vs : List PlineVertex) where
  pub joined_test : (closed : Bool) {k : ℕ} {a b : PlineVertex} → Joined closed vs k a b → get_or (repeat_tests closed vs) k false ≡ repeats a b
  unfolding repeat_tests
  joined_test closed {k} {a} {b} (next p q) =
      let short : k + 1 < length (around closed vs) = omega (arith, around-length closed vs, q.there) in
      neighbour_at (around closed vs) k a b short ∙ rw (around_here closed vs k a p.there, around_here closed vs (k + 1) b q.there, p.is, q.is)
  joined_test true {k} {a} {b} (closing c e p q) =
      let short : k + 1 < length (around true vs) = omega (arith, closed-length vs q.there) in
      let last : get_or (around true vs) (k + 1) b ≡ b = rw e (closed-last vs b q.there ∙ q.is) in
      neighbour_at (around true vs) k a b short ∙ rw (last, around_here true vs k a p.there, p.is)
  joined_test false {k} {a} {b} (closing c e p q) = let z : true ≡ false = sym c in cc
