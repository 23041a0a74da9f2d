-- What is drawn of any kept moves: how many vertices, the closing pair where the closing move was kept (`closing-pair`), and that a drawing of finite
-- numbers has finite bulges of all its kept moves (`open_bulge`, `closed-bulge`). Assumes nothing.
use mathlib.Core.Path.{◌≡◌, refl, sym, ap, ◌∙◌}
use mathlib.Core.Logic.{⊎_elim}
use mathlib.Core.List.Memᴰ
use mathlib.Core.List.{List, [], ◌∷◌, ◌++◌, map, map-append, append-nil, Memᴰ}
use mathlib.Core.Bool.{Bool, true, false, false≢true}
use Prim.Native.Nat.{ℕ, ◌+◌, ◌≤◌, ◌<◌}
use native.Mathlib.Omega.{arith}
use lib.ListN.{length, length-append}
use lib.Ieee.{Float, nan, inf, fin, is_nan}
use Rattle.floats.specs.Binary64.{zero}
use Rattle.floats.specs.Choice.{when◌give◌else◌, ◌and◌}
use Rattle.floats.specs.Size.{finite}
use Rattle.floats.proofs.Choice.{both_pass}
use Rattle.vectors.specs.Plane.{near}
use Rattle.vectors.specs.declared.Vector2.{Vector2}
use Rattle.segments.specs.declared.PlineVertex.{PlineVertex}
use Rattle.segments.specs.Vertex.{pos_of, vertex_at}
use Rattle.source.specs.Source.{around}
use Rattle.moves.specs.declared.Move.{Move}
use Rattle.moves.specs.Drawing.{kept, last_point, corners, drawn_open, drawn_closed, finite_vertex, all_finite}
use Rattle.moves.specs.Choice.{Apart}
use Rattle.moves.proofs.Closing.{closing}
use Rattle.moves.proofs.Drawn.{closed_never_one, closing-apart, closed-vertices}

-- ---- the counts

pub open_mark : (p : Vector2) (ks : List Move) → (drawn_open p ks).closed ≡ false
unfolding drawn_open
open_mark p [] = refl
open_mark p (k ∷ ks) = refl

pub closed-count : (p : Vector2) (ks : List Move) → (length ks ≡ 1 → ⊥) → length (drawn_closed p ks).vertices ≡ length ks
unfolding drawn_closed
closed-count p [] o = refl
closed-count p (k ∷ []) o = absurd (o refl)
closed-count p (k ∷ l ∷ ks) o = closed-vertices p (k ∷ l ∷ ks) (omega arith)

pub at-least-two : (n : ℕ) → 0 < n → (n ≡ 1 → ⊥) → 2 ≤ n
at-least-two n a b = omega arith

-- ---- the closing pair

ring : (p : Vector2) (ks : List Move) → 2 ≤ length ks → map pos_of (around true (drawn_closed p ks).vertices) ≡ map pos_of (drawn_closed p ks).vertices ++ p ∷ []
unfolding around when◌give◌else◌ drawn_closed corners
ring p [] h = absurd (omega arith)
ring p (k ∷ []) h = absurd (omega arith)
ring p (k ∷ l ∷ ks) h = map-append pos_of (corners p (k ∷ l ∷ ks)) (vertex_at p k.bulge ∷ [])

module _ (e : Float) (p : Vector2) (before : List Move) (c : Move) (home : c.end ≡ p) (some : 0 < length before) where
  -- the closing move was kept: the last point before it is not near the first vertex
  was_far : kept e p (before ++ c ∷ []) ≡ kept e p before ++ c ∷ [] → near (last_point p (kept e p before)) p e ≡ false
  unfolding when◌give◌else◌
  was_far k = by (near (last_point p (kept e p before)) p e) refl
    where
      by : (b : Bool) → near (last_point p (kept e p before)) p e ≡ b → b ≡ false
      by false h = refl
      by true h =
          let l : length (kept e p before) ≡ length (kept e p before ++ c ∷ []) = ap length (sym (rw h at (closing e p before c home)) ∙ k) in
          absurd (omega (arith, length-append (kept e p before) (c ∷ [])))

  pub closing-pair : kept e p (before ++ c ∷ []) ≡ kept e p before ++ c ∷ []
      → Apart (λ a b. near a b e) (map pos_of (around true (drawn_closed p (kept e p (before ++ c ∷ []))).vertices))
  closing-pair k =
      let n : length (kept e p (before ++ c ∷ [])) ≡ length (kept e p before) + 1 = ap length k ∙ length-append (kept e p before) (c ∷ []) in
      rw (ring p (kept e p (before ++ c ∷ [])) (at-least-two _ (omega arith) (closed_never_one e p before c home some))) (closing-apart e p before c home some (was_far k))

-- ---- the bulges

finite-front : (p : Vector2) (ks : List Move) (vs : List PlineVertex) (m : Move) → all_finite (corners p ks ++ vs) ≡ true → Memᴰ m ks → finite m.bulge ≡ true
unfolding corners all_finite finite_vertex
finite-front p [] vs m h i = absurd (Memᴰ.not-nil i)
finite-front p (k ∷ ks) vs m h i =
    let both = (both_pass (finite_vertex (vertex_at p k.bulge)) (all_finite (corners k.end ks ++ vs))).0 h in
    ⊎_elim (λ (q : m ≡ k). ap (λ (x : Move). finite x.bulge) q ∙ ((both_pass (finite p.x and finite p.y) (finite k.bulge)).0 both.0).1)
    (λ r. finite-front k.end ks vs m both.1 r) (Memᴰ.cases_cons i)

pub open_bulge : (p : Vector2) (ks : List Move) (m : Move) → all_finite (drawn_open p ks).vertices ≡ true → Memᴰ m ks → finite m.bulge ≡ true
unfolding drawn_open
open_bulge p [] m h i = absurd (Memᴰ.not-nil i)
open_bulge p (k ∷ ks) m h i = finite-front p (k ∷ ks) (vertex_at (last_point p (k ∷ ks)) zero ∷ []) m h i

pub closed-bulge : (p : Vector2) (ks : List Move) (m : Move) → (length ks ≡ 1 → ⊥) → all_finite (drawn_closed p ks).vertices ≡ true → Memᴰ m ks → finite m.bulge ≡ true
unfolding drawn_closed
closed-bulge p [] m o h i = absurd (Memᴰ.not-nil i)
closed-bulge p (k ∷ []) m o h i = absurd (o refl)
closed-bulge p (k ∷ l ∷ ks) m o h i = finite-front p (k ∷ l ∷ ks) [] m (rw (append-nil (corners p (k ∷ l ∷ ks))) h) i

pub finite_number : (x : Float) → finite x ≡ true → is_nan x ≡ false
unfolding finite is_nan
finite_number nan h = absurd (false≢true h)
finite_number (inf s) h = refl
finite_number (fin s m e) h = refl
