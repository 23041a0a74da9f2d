-- The tests of Nos. 3 and 5 one by one: which test stands at a place, and how many there are. Assumes nothing.
use mathlib.Core.Path.{◌≡◌, refl, sym}
use mathlib.Core.List.{List, [], ◌∷◌}
use mathlib.Core.Bool.{Bool, true, false, not}
use Prim.Native.Nat.{ℕ, zero, suc, ◌+◌, ◌-◌, ◌≤◌, ◌<◌}
use native.Mathlib.Numerals.{add-one}
use native.Mathlib.Omega.{arith}
use lib.ListN.{length, take, get_or, length-append, get_or-append}
use lib.Seq.{get_or-append_seam}
use Rattle.floats.specs.Choice.{when◌give◌else◌}
use Rattle.segments.specs.declared.PlineVertex.{PlineVertex}
use Rattle.segments.specs.declared.Settings.{Settings}
use Rattle.source.specs.Source.{around}
use Rattle.refusals.specs.Rows.{VertexIs}
use Rattle.refusals.specs.Limits.{good_vertex, good_offset, good_eps, good_corners, number_tests, repeats, neighbour_tests}

-- there is a vertex at each place before the end
pub vertex-there : (vs : List PlineVertex) (k : ℕ) → k < length vs → (v : PlineVertex) × VertexIs vs k v
vertex-there [] k h = absurd (omega arith)
vertex-there (v ∷ vs) zero h = (v, record { there = h; is = refl })
vertex-there (v ∷ vs) (suc k) h = let w = vertex-there vs k (omega arith) in (w.0, record { there = h; is = w.1.is })

-- a test that holds has a place before the end
pub holds-before : (bs : List Bool) (k : ℕ) → get_or bs k false ≡ true → k < length bs
holds-before [] k e = let t : true ≡ false = sym e in let z : ◌≡◌ {A = ℕ} 0 1 = cc in absurd (omega arith)
holds-before (b ∷ bs) zero e = omega arith
holds-before (b ∷ bs) (suc k) e = let h = holds-before bs k e in omega arith

module _ (σ : Settings) where
  pub number-length : (vs : List PlineVertex) → length (number_tests vs σ) ≡ length vs + 3
  unfolding number_tests
  number-length [] = refl
  number-length (v ∷ vs) = rw (number-length vs) (omega arith)

  pub number-vertex : (vs : List PlineVertex) (k : ℕ) (d : PlineVertex) → k < length vs → get_or (number_tests vs σ) k false ≡ not (good_vertex (get_or vs k d))
  unfolding number_tests
  number-vertex [] k d h = absurd (omega arith)
  number-vertex (v ∷ vs) zero d h = refl
  number-vertex (v ∷ vs) (suc k) d h = number-vertex vs k d (omega arith)

  pub number-offset : (vs : List PlineVertex) → get_or (number_tests vs σ) (length vs) false ≡ not (good_offset σ.offset)
  unfolding number_tests
  number-offset [] = refl
  number-offset (v ∷ vs) = number-offset vs

  pub number-eps : (vs : List PlineVertex) → get_or (number_tests vs σ) (length vs + 1) false ≡ not (good_eps σ.eps)
  unfolding number_tests
  number-eps [] = refl
  number-eps (v ∷ vs) = rw add-one (rw add-one at (number-eps vs))

  pub number-ratio : (vs : List PlineVertex) → get_or (number_tests vs σ) (length vs + 2) false ≡ not (good_corners σ.corners)
  unfolding number_tests
  number-ratio [] = refl
  number-ratio (v ∷ vs) = let e : suc (length vs) + 2 ≡ suc (length vs + 2) = omega arith in rw e (number-ratio vs)

pub neighbour_length : (vs : List PlineVertex) → length (neighbour_tests vs) ≡ length vs - 1
unfolding neighbour_tests
neighbour_length [] = refl
neighbour_length (a ∷ []) = refl
neighbour_length (a ∷ b ∷ vs) = rw (neighbour_length (b ∷ vs)) (omega arith)

pub neighbour_at : (vs : List PlineVertex) (k : ℕ) (c d : PlineVertex) → k + 1 < length vs → get_or (neighbour_tests vs) k false ≡ repeats (get_or vs k c) (get_or vs (k + 1) d)
unfolding neighbour_tests
neighbour_at [] k c d h = absurd (omega arith)
neighbour_at (a ∷ []) k c d h = absurd (omega arith)
neighbour_at (a ∷ b ∷ vs) zero c d h = refl
neighbour_at (a ∷ b ∷ vs) (suc k) c d h =
    let e : suc k + 1 ≡ suc (k + 1) = omega arith in
    rw e (neighbour_at (b ∷ vs) k c d (omega arith))

-- ---- a source's vertices in the order of its segments

pub around-length : (closed : Bool) (vs : List PlineVertex) → length vs ≤ length (around closed vs)
unfolding around when◌give◌else◌
around-length true vs = rw (length-append vs (take 1 vs)) (omega arith)
around-length false vs = omega arith

pub around_here : (closed : Bool) (vs : List PlineVertex) (k : ℕ) (d : PlineVertex) → k < length vs → get_or (around closed vs) k d ≡ get_or vs k d
unfolding around when◌give◌else◌
around_here true vs k d h = get_or-append vs (take 1 vs) d k h
around_here false vs k d h = refl

-- closed, the first vertex stands once more at the end
pub closed-length : (vs : List PlineVertex) → 0 < length vs → length (around true vs) ≡ length vs + 1
unfolding around when◌give◌else◌
closed-length [] h = absurd (omega arith)
closed-length (v ∷ vs) h = rw (length-append vs (v ∷ [])) (omega arith)

pub closed-last : (vs : List PlineVertex) (d : PlineVertex) → 0 < length vs → get_or (around true vs) (length vs) d ≡ get_or vs 0 d
unfolding around when◌give◌else◌
closed-last [] d h = absurd (omega arith)
closed-last (v ∷ vs) d h = get_or-append_seam vs v [] d
