-- The vertices that a walk turns to: an open one to all but the first (`open_route`), a closed one to the first two (`lead_route`) and then once around (`around_route`). Assumes nothing.
use mathlib.Core.Path.{◌≡◌, refl, sym, ap, ◌∙◌}
use mathlib.Core.List.{List, [], ◌∷◌, ◌++◌, append-nil}
use Prim.Native.Nat.{ℕ, zero, suc, ◌+◌, ◌-◌, ◌≤◌}
use native.Mathlib.Nat.{suc-add}
use native.Mathlib.Omega.{arith}
use lib.ListN.{length, drop, get_or, length-drop, drop_of_length-le}
use Rattle.segments.specs.declared.PlineVertex.{PlineVertex}
use Rattle.source.specs.InnerSteps.{vertex_of, next_of}
use Rattle.source.proofs.Source.{vertex-is, drop-vertices}
use Rattle.source.proofs.Segments.{next_on, next_back}
use Rattle.walk.specs.Walk.{last_vertex}
use Rattle.sheet.specs.InnerSteps.{routed}

last-at : (a : PlineVertex) (vs : List PlineVertex) (d : PlineVertex) → last_vertex a vs ≡ get_or (a ∷ vs) (length vs) d
unfolding last_vertex
last-at a [] d = refl
last-at a (b ∷ vs) d = last-at b vs d

pub length-routed : (v n k : ℕ) (s : List PlineVertex) → length (routed v n k s) ≡ n
unfolding routed
length-routed v zero k s = refl
length-routed v (suc n) k s = ap suc (length-routed v n _ s)

module _ (s : List PlineVertex) (v : ℕ) (long : v ≡ length s) where
  -- up to the last vertex, and then from the first on
  routed_on : (n m k : ℕ) → k + suc n ≡ v → routed v (suc n + m) k s ≡ drop k s ++ routed v m 0 s
  unfolding routed
  routed_on zero m k h =
      let e : drop (k + 1) s ≡ [] = drop_of_length-le s {i = k + 1} (omega arith) in
      let z : zero + m ≡ m = omega arith in
      rw (suc-add, drop-vertices s k (omega arith), e) (ap (λ (vs : List PlineVertex). vertex_of s k ∷ vs) (rw (z, next_back v k (omega arith))))
  routed_on (suc n) m k h =
      rw (suc-add, drop-vertices s k (omega arith))
      (ap (λ (vs : List PlineVertex). vertex_of s k ∷ vs) (rw (next_on v k (omega arith)) (routed_on n m (k + 1) (omega arith))))

  module _ (two : 2 ≤ v) where
    pub first_two : s ≡ vertex_of s 0 ∷ vertex_of s 1 ∷ drop 2 s
    first_two = drop-vertices s 0 (omega arith) ∙ ap (λ (vs : List PlineVertex). vertex_of s 0 ∷ vs) (drop-vertices s 1 (omega arith))

    pub others : length (drop 2 s) + 2 ≡ v
    others = omega (arith, length-drop 2 s)

    pub last-is : last_vertex (vertex_of s 1) (drop 2 s) ≡ vertex_of s (v - 1)
    last-is =
        let d = vertex_of s (v - 1) in
        let n : suc (length (drop 2 s)) ≡ v - 1 = omega (arith, others) in
        last-at (vertex_of s 1) (drop 2 s) d
        ∙ (ap (λ (vs : List PlineVertex). get_or vs (suc (length (drop 2 s))) d) (sym first_two) ∙ ap (λ k. get_or s k d) n ∙ vertex-is s (v - 1) d (omega arith))

    pub open_route : routed v (v - 1) 1 s ≡ vertex_of s 1 ∷ drop 2 s
    open_route =
        let n : v - 1 ≡ suc (v - 2) + 0 = omega arith in
        ap (λ k. routed v k 1 s) n ∙ routed_on (v - 2) 0 1 (omega arith) ∙ rw (drop-vertices s 1 (omega arith)) (unfold routed in rw append-nil)

    -- those that lead a closed one in, and those once around from there
    pub lead_route : routed v 2 0 s ≡ vertex_of s 0 ∷ vertex_of s 1 ∷ []
    unfolding routed
    lead_route = rw (next_on v 0 (omega arith))

    back_at-first : routed v 1 0 s ≡ vertex_of s 0 ∷ []
    unfolding routed
    back_at-first = refl

    around-from : (n : ℕ) → n + 2 ≡ v → routed v (suc n) (next_of v 1) s ≡ drop 2 s ++ vertex_of s 0 ∷ []
    around-from zero h =
        let e : drop 2 s ≡ [] = drop_of_length-le s {i = 2} (omega arith) in
        rw (next_back v 1 (omega arith), e) back_at-first
    around-from (suc n) h =
        let z : suc (suc n) ≡ suc n + 1 = omega arith in
        rw (next_on v 1 (omega arith), ← back_at-first) (ap (λ m. routed v m 2 s) z ∙ routed_on n 1 2 (omega arith))

    pub around_route : routed v (v - 1) (next_of v 1) s ≡ drop 2 s ++ vertex_of s 0 ∷ []
    around_route = let n : v - 1 ≡ suc (v - 2) = omega arith in rw n (around-from (v - 2) (omega arith))
