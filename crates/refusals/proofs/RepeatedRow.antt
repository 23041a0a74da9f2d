-- Demand 1 for No. 5: the search of the tests answers a place exactly where the row of 01 §1 holds at that place, for every list of vertices.
-- Assumes nothing.
use mathlib.Core.Path.{◌≡◌, refl, sym, ◌∙◌}
use mathlib.Core.Logic.Iff
use mathlib.Core.Logic.{◌↔◌, ⊎_elim}
use mathlib.Core.List.{List, [], ◌∷◌}
use mathlib.Core.Bool.{Bool, true, false}
use Prim.Native.Nat.{ℕ, ◌+◌, ◌≤◌, ◌<◌}
use native.Mathlib.Nat.{eq-or-lt_of_le}
use native.Mathlib.Omega.{arith}
use lib.ListN.{length, get_or}
use lib.Ieee.{eq}
use Rattle.std.specs.Prelude.{None, Some}
use Rattle.floats.specs.Choice.{when◌give◌else◌}
use Rattle.floats.proofs.Choice.{both_pass}
use Rattle.segments.specs.declared.PlineVertex.{PlineVertex}
use Rattle.source.specs.Source.{around}
use Rattle.refusals.specs.Limits.{repeats, neighbour_tests, repeat_tests, first_of}
use Rattle.refusals.specs.Rows.{Repeats, Joined, next, closing, RepeatedRow}
use Rattle.refusals.proofs.First.{first-row, nowhere_row}
use Rattle.refusals.proofs.Tests.{vertex-there, holds-before, neighbour_length, closed-length}
use Rattle.refusals.proofs.Joined.{joined_test}
use Rattle.refusals.proofs.Bad.{passes}

module _ (a b : PlineVertex) where
  pub repeats↔ : (repeats a b ≡ true) ↔ Repeats a b
  unfolding repeats
  repeats↔ =
      Iff.trans (both_pass (eq a.x b.x) (eq a.y b.y)) (
        λ p. record { x = (passes (eq a.x b.x)).0 p.0; y = (passes (eq a.y b.y)).0 p.1 },
        λ (r : Repeats a b). ((passes (eq a.x b.x)).1 r.x, (passes (eq a.y b.y)).1 r.y),
      )

-- ---- where a test stands, a segment joins two vertices
abbrev Pair : Bool → List PlineVertex → ℕ → Type 0
Pair closed vs k = (a : PlineVertex) × ((b : PlineVertex) × Joined closed vs k a b)

onward : (closed : Bool) (vs : List PlineVertex) (k : ℕ) → k + 1 < length vs → Pair closed vs k
onward closed vs k h = let a = vertex-there vs k (omega arith) in let b = vertex-there vs (k + 1) h in (a.0, (b.0, next a.1 b.1))

back : (vs : List PlineVertex) (k : ℕ) → k + 1 ≡ length vs → Pair true vs k
back vs k h = let a = vertex-there vs k (omega arith) in let b = vertex-there vs 0 (omega arith) in (a.0, (b.0, closing refl h a.1 b.1))

pair : (closed : Bool) (vs : List PlineVertex) (k : ℕ) → k < length (repeat_tests closed vs) → Pair closed vs k
unfolding repeat_tests
pair false vs k h = unfold around when◌give◌else◌ in onward false vs k (omega (arith, neighbour_length vs))
pair true [] k h = unfold around when◌give◌else◌ neighbour_tests in absurd (omega arith)
pair true (v ∷ vs) k h =
    let ws : List PlineVertex = v ∷ vs in
    let in-it : k + 1 ≤ length ws = omega (arith, neighbour_length (around true (v ∷ vs)), closed-length (v ∷ vs) (omega arith)) in
    ⊎_elim (λ e. back ws k e) (λ l. onward true ws k l) (eq-or-lt_of_le in-it)

module _ (vs : List PlineVertex) (closed : Bool) where
  -- a pair that is joined at k and repeats, whether or not one is before it
  record RepeatsAt (k : ℕ) : Type 0 where
    pub a : PlineVertex
    pub b : PlineVertex
    pub joined : Joined closed vs k a b
    pub repeated : Repeats a b

  repeated→test : (k : ℕ) → RepeatsAt k → get_or (repeat_tests closed vs) k false ≡ true
  repeated→test k r = joined_test vs closed r.joined ∙ (repeats↔ r.a r.b).1 r.repeated

  test→repeated : (k : ℕ) → get_or (repeat_tests closed vs) k false ≡ true → RepeatsAt k
  test→repeated k t =
      let p = pair closed vs k (holds-before (repeat_tests closed vs) k t) in
      record { a = p.0; b = p.1.0; joined = p.1.1; repeated = (repeats↔ p.0 p.1.0).0 (sym (joined_test vs closed p.1.1) ∙ t) }

  -- ---- the row: a pair that repeats there, and none before
  pub repeated-row : (k : ℕ) → (first_of (repeat_tests closed vs) ≡ Some k) ↔ RepeatedRow vs closed k
  repeated-row k =
      Iff.trans (first-row (repeat_tests closed vs) RepeatsAt (λ (j : ℕ). (test→repeated j, repeated→test j)) k) (
        λ (r : RepeatsAt k × ((j : ℕ) → j < k → RepeatsAt j → ⊥)). record {
          a = r.0.a;
          b = r.0.b;
          joined = r.0.joined;
          repeats = r.0.repeated;
          first = λ j p q h i e. r.1 j h (record { a = p; b = q; joined = i; repeated = e });
        },
        λ (r : RepeatedRow vs closed k).
            (record { a = r.a; b = r.b; joined = r.joined; repeated = r.repeats }, λ (j : ℕ) (h : j < k) (q : RepeatsAt j). r.first j q.a q.b h q.joined q.repeated),
      )

  pub repeated_nowhere : (first_of (repeat_tests closed vs) ≡ None) ↔ ((k : ℕ) → RepeatedRow vs closed k → ⊥)
  repeated_nowhere = nowhere_row (first_of (repeat_tests closed vs)) (RepeatedRow vs closed) repeated-row
