-- The source segments that a walk's moves belong to never fall, and none is past the source's last; so it is with the origins of what is drawn (`drawing_never_falls`,
-- `drawing-below`), and those of a copy are the segments one by one. Assumes nothing.
use mathlib.Core.Path.{◌≡◌, refl, ap, ◌∙◌, subst}
use mathlib.Core.Logic.{⊎_elim}
use mathlib.Core.List.Memᴰ
use mathlib.Core.List.{List, [], ◌∷◌, ◌++◌, map, append-nil, Memᴰ}
use mathlib.Core.Bool.{Bool, true, false}
use Prim.Native.Nat.{ℕ, zero, suc, ◌+◌, ◌-◌, ◌≤◌, ◌<◌}
use native.Mathlib.Nat.{le_refl, add-zero}
use native.Mathlib.Omega.{arith}
use lib.ListN.{length, get_or, length-append}
use lib.Ieee.{Float}
use Rattle.floats.specs.Binary64 as B
use Rattle.floats.specs.Choice.{when◌give◌else◌}
use Rattle.vectors.specs.Plane.{near}
use Rattle.vectors.specs.declared.Vector2.{Vector2}
use Rattle.segments.specs.declared.PlineVertex.{PlineVertex}
use Rattle.segments.specs.declared.RawOffsetSeg.{RawOffsetSeg}
use Rattle.segments.specs.declared.Settings.{Settings}
use Rattle.segments.specs.Segment.{offset_seg}
use Rattle.source.specs.Source.{segments_of}
use Rattle.source.proofs.Segments.{segments-closed, segments_open}
use Rattle.joins.specs.declared.JoinBoundary.{JoinBoundary}
use Rattle.moves.specs.declared.Move.{Move}
use Rattle.moves.specs.declared.Origin.{Origin}
use Rattle.moves.specs.declared.Origin.TheVariants.{Span}
use Rattle.moves.specs.Made.{segment_of, span_move, connector_move, tip_move, connector_moves}
use Rattle.moves.proofs.Tips.{either_tip}
use Rattle.moves.specs.Drawing.{Drawing, nothing, move_end, kept}
use Rattle.moves.specs.Choice.{NeverFalling}
use Rattle.moves.specs.Choice.NeverFalling.{none, next}
use Rattle.moves.proofs.Rows.{from_less, in_front, at-most-last, kept_never_falls, source_of, open_never_falls, closed_never_falls}
use Rattle.walk.specs.Walk.{join_at, walk, open_last, closed_last, closing_join, walk_moves, walk_drawing, drawing_of, spans_from}
use Rattle.walk.proofs.Lengths.{open_drawing, closed-drawing}

-- ---- the moves of a walk, from segment i up to segment n

abbrev Climbing : ℕ → ℕ → List Move → Type 0
Climbing i n ms = NeverFalling i (map source_of ms ++ n ∷ [])

-- the last segment's moves are its own
abbrev OwnLast : (ℕ → RawOffsetSeg → Float → List Move) → Type 0
OwnLast last = (i : ℕ) (g : RawOffsetSeg) (t : Float) → Climbing i i (last i g t)

-- the connectors after segment i are its own
connectors_climb : (i n : ℕ) (j : JoinBoundary) (ms : List Move) → Climbing i n ms → Climbing i n (connector_moves i j ++ ms)
unfolding connector_moves connector_move tip_move
connectors_climb i n j ms on =
    either_tip i j (λ (xs : List Move). Climbing i n ((xs ++ connector_move i j ∷ []) ++ ms)) (λ t. next (le_refl i) on) (λ t. next (le_refl i) (next (le_refl i) on))

walk_climbs : (last : ℕ → RawOffsetSeg → Float → List Move) → OwnLast last → (σ : Settings) (i : ℕ) (a b : PlineVertex) (t : Float) (vs : List PlineVertex)
    → Climbing i (i + length vs) (walk last σ i a b t vs)
unfolding walk span_move
walk_climbs last h σ i a b t [] = rw (add-zero i) (h i (offset_seg a b σ.offset) t)
walk_climbs last h σ i a b t (c ∷ vs) =
    let rest = walk_climbs last h σ (suc i) b c (join_at σ a b c).next_param vs in
    let same : suc i + length vs ≡ i + suc (length vs) = omega arith in
    next (le_refl i) (connectors_climb i _ (join_at σ a b c) _ (from_less {n = i} (omega arith) (rw same at rest)))

open_last_lem : OwnLast open_last
unfolding open_last span_move
open_last_lem i g t = next (le_refl i) (next (le_refl i) none)

either_own : (b : Bool) (i : ℕ) (ms ks : List Move) → Climbing i i ms → Climbing i i ks → Climbing i i (when b give ms else ks)
unfolding when◌give◌else◌
either_own true i ms ks p q = p
either_own false i ms ks p q = q

closed-last : (closing : JoinBoundary) (ε : Float) → OwnLast (closed_last closing ε)
unfolding closed_last span_move
closed-last closing ε i g t =
    let none_left : Climbing i i [] = next (le_refl i) none in
    let own : Climbing i i (connector_moves i closing) = subst (Climbing i i) (append-nil (connector_moves i closing)) (connectors_climb i i closing [] none_left) in
    either_own _ i _ _ (next (le_refl i) none_left) (next (le_refl i) own)

module _ (σ : Settings) (a b : PlineVertex) (vs : List PlineVertex) where
  -- the source's last segment
  abbrev top : Bool → ℕ
  top closed = segments_of closed (length (a ∷ b ∷ vs)) - 1

  pub moves_climb : (closed : Bool) → NeverFalling 0 (map source_of (walk_moves closed σ a b vs) ++ top closed ∷ [])
  unfolding walk_moves when◌give◌else◌
  moves_climb false =
      let n : top false ≡ 0 + length vs = rw (segments_open (length (a ∷ b ∷ vs)) (omega arith)) (omega arith) in
      rw n (walk_climbs open_last open_last_lem σ 0 a b B.zero vs)
  moves_climb true =
      let j = closing_join σ a b vs in
      let n : top true ≡ 0 + length (vs ++ a ∷ []) = rw (segments-closed (length (a ∷ b ∷ vs)) (omega arith)) (omega (arith, length-append vs (a ∷ []))) in
      rw n (walk_climbs (closed_last j σ.eps) (closed-last j σ.eps) σ 0 a b j.next_param (vs ++ a ∷ []))

  kept_climb : (closed : Bool) (p : Vector2) → NeverFalling 0 (map source_of (kept σ.eps p (walk_moves closed σ a b vs)) ++ top closed ∷ [])
  kept_climb closed p = kept_never_falls move_end (λ x y. near x y σ.eps) source_of (top closed ∷ []) p (walk_moves closed σ a b vs) (moves_climb closed)

  walk-drawn : (closed : Bool) → NeverFalling 0 (map segment_of (walk_drawing closed σ a b vs).origins ++ top closed ∷ [])
  walk-drawn false = rw (open_drawing σ a b vs) (open_never_falls _ _ _ (kept_climb false _))
  walk-drawn true = rw (closed-drawing σ a b vs) (closed_never_falls _ _ _ (kept_climb true _))

-- ---- the drawing of a source

alone : (n : ℕ) → NeverFalling 0 (n ∷ [])
alone n = let l : 0 ≤ n = omega arith in next l none

either_climbs : (t : Bool) (n : ℕ) (d : Drawing) → NeverFalling 0 (map segment_of d.origins ++ n ∷ []) → NeverFalling 0 (map segment_of (when t give nothing else d).origins ++ n ∷ [])
unfolding when◌give◌else◌
either_climbs true n d r = alone _
either_climbs false n d r = r

module _ (closed : Bool) (σ : Settings) where
  drawing_climbs : (vs : List PlineVertex) → NeverFalling 0 (map segment_of (drawing_of closed σ vs).origins ++ (segments_of closed (length vs) - 1) ∷ [])
  unfolding drawing_of
  drawing_climbs [] = alone _
  drawing_climbs (a ∷ []) = alone _
  drawing_climbs (a ∷ b ∷ vs) = either_climbs _ _ (walk_drawing closed σ a b vs) (walk-drawn σ a b vs closed)

  pub drawing_never_falls : (vs : List PlineVertex) → NeverFalling 0 (map segment_of (drawing_of closed σ vs).origins)
  drawing_never_falls vs = in_front _ _ (drawing_climbs vs)

  some-segment : (closed : Bool) (v : ℕ) → 1 ≤ segments_of closed (suc (suc v))
  some-segment true v = rw (segments-closed (suc (suc v)) (omega arith)) (omega arith)
  some-segment false v = rw (segments_open (suc (suc v)) (omega arith)) (omega arith)

  -- each names a segment of the source
  pub drawing-below : (vs : List PlineVertex) {o : Origin} → Memᴰ o (drawing_of closed σ vs).origins → segment_of o < segments_of closed (length vs)
  unfolding drawing_of
  drawing-below [] h = absurd (Memᴰ.not-nil h)
  drawing-below (a ∷ []) h = absurd (Memᴰ.not-nil h)
  drawing-below (a ∷ b ∷ vs) h =
      let some = some-segment closed (length vs) in
      let most = at-most-last _ (drawing_climbs (a ∷ b ∷ vs)) (Memᴰ.map segment_of h) in
      omega arith

-- ---- a copy

pub length_spans : (i n : ℕ) → length (spans_from i n) ≡ n
unfolding spans_from
length_spans i zero = refl
length_spans i (suc n) = ap suc (length_spans (suc i) n)

-- the span of segment i + k stands at place k
pub span-at : (i n k : ℕ) (d : Origin) → k < n → get_or (spans_from i n) k d ≡ Span (record { 0 = i + k })
unfolding spans_from
span-at i zero k d h = absurd (omega arith)
span-at i (suc n) zero d h = rw (add-zero i)
span-at i (suc n) (suc k) d h = span-at (suc i) n k d (omega arith) ∙ ap (λ (m : ℕ). Span (record { 0 = m })) (omega arith)

pub spans_climb : (i n : ℕ) → NeverFalling i (map segment_of (spans_from i n) ++ (i + n) ∷ [])
unfolding spans_from
spans_climb i zero = rw (add-zero i) (next (le_refl i) none)
spans_climb i (suc n) =
    let same : suc i + n ≡ i + suc n = omega arith in
    next (le_refl i) (from_less {n = i} (omega arith) (rw same at (spans_climb (suc i) n)))

pub spans_below : (i n : ℕ) {o : Origin} → Memᴰ o (spans_from i n) → segment_of o < i + n
unfolding spans_from
spans_below i zero h = absurd (Memᴰ.not-nil h)
spans_below i (suc n) {o} h =
    ⊎_elim (λ (e : o ≡ Span (record { 0 = i })). let is = ap segment_of e in omega arith) (λ w. let l = spans_below (suc i) n w in omega arith) (Memᴰ.cases_cons h)
