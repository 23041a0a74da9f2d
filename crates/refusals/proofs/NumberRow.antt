-- Demand 1 for No. 3: the search of the tests answers a place exactly where the row of 01 §1 holds at that place. Assumes nothing.
use mathlib.Core.Path.{◌≡◌, sym, ◌∙◌, ap}
use mathlib.Core.Logic.Iff
use mathlib.Core.Logic.{◌↔◌, ⊎_elim}
use mathlib.Core.List.{List}
use mathlib.Core.Bool.{true, false, not}
use Prim.Native.Nat.{ℕ, ◌+◌, ◌≤◌, ◌<◌}
use native.Mathlib.Nat.{eq-or-lt_of_le}
use native.Mathlib.Omega.{arith}
use lib.ListN.{length, get_or}
use lib.Ieee.{neg}
use Rattle.std.specs.Prelude.{None, Some}
use Rattle.segments.specs.declared.PlineVertex.{PlineVertex}
use Rattle.segments.specs.declared.Settings.{Settings}
use Rattle.refusals.specs.Limits.{reach, least_eps, most_eps, good_vertex, good_offset, good_eps, good_corners, number_tests, first_of}
use Rattle.refusals.specs.Rows.{Bad, BadVertex, VertexIs, NoneBadBefore, NumberRow, vertex, by-offset, by-eps, by-ratio}
use Rattle.refusals.proofs.First.{first-row, nowhere_row}
use Rattle.refusals.proofs.Tests.{vertex-there, holds-before, number-length, number-vertex, number-offset, number-eps, number-ratio}
use Rattle.refusals.proofs.Bad.{BadCorners, not_fails, vertex↔bad, offset↔bad, eps↔bad, corners↔bad}

module _ (vs : List PlineVertex) (σ : Settings) where
  -- what is bad at a place, whether or not something is before it
  data BadAt : ℕ → Type 0 where
    at-vertex : {k : ℕ} {v : PlineVertex} → VertexIs vs k v → BadVertex v → BadAt k
    at_offset : Bad (neg reach) reach σ.offset → BadAt (length vs)
    at-eps : Bad least_eps most_eps σ.eps → BadAt (length vs + 1)
    at-ratio : BadCorners σ.corners → BadAt (length vs + 2)

  test_vertex : {k : ℕ} {v : PlineVertex} → VertexIs vs k v → get_or (number_tests vs σ) k false ≡ not (good_vertex v)
  test_vertex {k} {v} i = number-vertex σ vs k v i.there ∙ ap (λ (w : PlineVertex). not (good_vertex w)) i.is

  bad-vertex : (k : ℕ) → k < length vs → get_or (number_tests vs σ) k false ≡ true → BadAt k
  bad-vertex k h t = let w = vertex-there vs k h in at-vertex w.1 ((vertex↔bad w.0).0 ((not_fails (good_vertex w.0)).0 (sym (test_vertex w.1) ∙ t)))

  bad-offset : (k : ℕ) → k ≡ length vs → get_or (number_tests vs σ) k false ≡ true → BadAt k
  bad-offset k h t = rw h (at_offset ((offset↔bad σ.offset).0 ((not_fails (good_offset σ.offset)).0 (sym (number-offset σ vs) ∙ rw h at t))))

  bad-eps : (k : ℕ) → k ≡ length vs + 1 → get_or (number_tests vs σ) k false ≡ true → BadAt k
  bad-eps k h t = rw h (at-eps ((eps↔bad σ.eps).0 ((not_fails (good_eps σ.eps)).0 (sym (number-eps σ vs) ∙ rw h at t))))

  bad-ratio : (k : ℕ) → k ≡ length vs + 2 → get_or (number_tests vs σ) k false ≡ true → BadAt k
  bad-ratio k h t = rw h (at-ratio ((corners↔bad σ.corners).0 ((not_fails (good_corners σ.corners)).0 (sym (number-ratio σ vs) ∙ rw h at t))))

  test→bad : (k : ℕ) → get_or (number_tests vs σ) k false ≡ true → BadAt k
  test→bad k t =
      let many : k ≤ length vs + 2 = omega (arith, holds-before (number_tests vs σ) k t, number-length σ vs) in
      ⊎_elim (λ h. bad-ratio k h t)
      (λ l. let few : k ≤ length vs + 1 = omega arith in
      ⊎_elim (λ h. bad-eps k h t)
      (λ m. let some : k ≤ length vs = omega arith in ⊎_elim (λ h. bad-offset k h t) (λ h. bad-vertex k h t) (eq-or-lt_of_le some))
      (eq-or-lt_of_le few))
      (eq-or-lt_of_le many)

  bad→test : {k : ℕ} → BadAt k → get_or (number_tests vs σ) k false ≡ true
  bad→test (at-vertex {k} {v} i b) = test_vertex i ∙ (not_fails (good_vertex v)).1 ((vertex↔bad v).1 b)
  bad→test (at_offset b) = number-offset σ vs ∙ (not_fails (good_offset σ.offset)).1 ((offset↔bad σ.offset).1 b)
  bad→test (at-eps b) = number-eps σ vs ∙ (not_fails (good_eps σ.eps)).1 ((eps↔bad σ.eps).1 b)
  bad→test (at-ratio b) = number-ratio σ vs ∙ (not_fails (good_corners σ.corners)).1 ((corners↔bad σ.corners).1 b)

  -- ---- the row: bad there, and not before

  first→row : {k : ℕ} → BadAt k → ((j : ℕ) → j < k → BadAt j → ⊥) → NumberRow vs σ k
  first→row (at-vertex {k} {v} i b) n = vertex k v i b (λ j w h p q. n j h (at-vertex p q))
  first→row (at_offset b) n = by-offset (λ j w h p q. n j h (at-vertex p q)) b
  first→row (at-eps b) n = by-eps (λ j w h p q. n j (omega arith) (at-vertex p q)) (λ q. n (length vs) (omega arith) (at_offset q)) b
  first→row (at-ratio b) n =
      by-ratio (λ j w h p q. n j (omega arith) (at-vertex p q)) (λ q. n (length vs) (omega arith) (at_offset q)) (λ q. n (length vs + 1) (omega arith) (at-eps q))
      b.0 b.1 b.2

  none_before : {j k : ℕ} → BadAt j → j < k → k ≤ length vs → NoneBadBefore vs k → ⊥
  none_before (at-vertex p q) h l n = n _ _ h p q
  none_before (at_offset q) h l n = omega arith
  none_before (at-eps q) h l n = omega arith
  none_before (at-ratio q) h l n = omega arith

  none_yet : {j : ℕ} → BadAt j → j < length vs + 1 → NoneBadBefore vs (length vs) → (Bad (neg reach) reach σ.offset → ⊥) → ⊥
  none_yet (at-vertex p q) h n m = n _ _ p.there p q
  none_yet (at_offset q) h n m = m q
  none_yet (at-eps q) h n m = omega arith
  none_yet (at-ratio q) h n m = omega arith

  none_still :
      {j : ℕ} → BadAt j → j < length vs + 2 → NoneBadBefore vs (length vs) → (Bad (neg reach) reach σ.offset → ⊥) → (Bad least_eps most_eps σ.eps → ⊥) → ⊥
  none_still (at-vertex p q) h n m l = n _ _ p.there p q
  none_still (at_offset q) h n m l = m q
  none_still (at-eps q) h n m l = l q
  none_still (at-ratio q) h n m l = omega arith

  row→first : {k : ℕ} → NumberRow vs σ k → BadAt k × ((j : ℕ) → j < k → BadAt j → ⊥)
  row→first (vertex k v i b n) = (at-vertex i b, λ (j : ℕ) h q. none_before q h (omega (arith, i.there)) n)
  row→first (by-offset n b) = (at_offset b, λ (j : ℕ) h q. none_before q h (omega arith) n)
  row→first (by-eps n m b) = (at-eps b, λ (j : ℕ) h q. none_yet q h n m)
  row→first (by-ratio n m l ratio e b) = (at-ratio (ratio, e, b), λ (j : ℕ) h q. none_still q h n m l)

  pub number-row : (k : ℕ) → (first_of (number_tests vs σ) ≡ Some k) ↔ NumberRow vs σ k
  number-row k =
      Iff.trans (first-row (number_tests vs σ) BadAt (λ (j : ℕ). (test→bad j, bad→test)) k)
      (λ (r : BadAt k × ((j : ℕ) → j < k → BadAt j → ⊥)). first→row r.0 r.1, row→first)

  pub number_nowhere : (first_of (number_tests vs σ) ≡ None) ↔ ((k : ℕ) → NumberRow vs σ k → ⊥)
  number_nowhere = nowhere_row (first_of (number_tests vs σ)) (NumberRow vs σ) number-row
