-- Each connector among a walk's moves has a join's bulge or, to a tip, zero, and so is bounded (`connectors_bound`). Assumes nothing.
use mathlib.Core.Path.{◌≡◌, sym, ap, ◌∙◌, subst}
use mathlib.Core.Logic.{⊎_elim}
use mathlib.Core.List.Memᴰ
use mathlib.Core.List.{List, [], ◌∷◌, ◌++◌, append-nil, Memᴰ}
use mathlib.Core.Bool.{Bool, true, false, true≢false}
use Prim.Native.Nat.{ℕ, suc}
use lib.Ieee.{Float}
use Rattle.floats.specs.Binary64.{zero}
use Rattle.floats.specs.Choice.{when◌give◌else◌}
use Rattle.vectors.specs.Plane.{near}
use Rattle.vectors.specs.declared.Vector2.{Vector2}
use Rattle.segments.specs.declared.PlineVertex.{PlineVertex}
use Rattle.segments.specs.declared.RawOffsetSeg.{RawOffsetSeg}
use Rattle.segments.specs.declared.Settings.{Settings}
use Rattle.segments.specs.declared.SourceSegment.{SourceSegment}
use Rattle.segments.specs.Vertex.{pos_of}
use Rattle.segments.specs.Segment.{offset_seg}
use Rattle.joins.specs.declared.JoinBoundary.{JoinBoundary}
use Rattle.joins.specs.InnerSteps.{ConnectorBound}
use Rattle.joins.proofs.Made.{zero_bound}
use Rattle.joins.proofs.Corner.{corner_bound}
use Rattle.moves.specs.declared.Move.{Move}
use Rattle.moves.specs.declared.Origin.{Origin}
use Rattle.moves.specs.declared.Origin.TheVariants.{Span, Connector}
use Rattle.moves.specs.Made.{span_move, connector_move, tip_move, connector_moves}
use Rattle.moves.proofs.Tips.{either_tip}
use Rattle.walk.specs.Walk.{join_at, walk, open_last, closed_last, closing_join, walk_moves}

no_span : (i k : SourceSegment) → ◌≡◌ {A = Origin} (Span k) (Connector i) → ⊥
no_span i k e = true≢false (cc)

-- the connectors of a row of moves are bounded
abbrev Bounded : Settings → List Move → Type 0
Bounded σ ms = (m : Move) (i : SourceSegment) → Memᴰ m ms → m.origin ≡ Connector i → ConnectorBound σ.offset m.bulge

module _ (σ : Settings) where
  none : Bounded σ []
  none m i h e = absurd (Memᴰ.not-nil h)

  span : (k : ℕ) (g : RawOffsetSeg) (from : Float) (end : Vector2) (to : Float) (ms : List Move) → Bounded σ ms → Bounded σ (span_move k g from end to ∷ ms)
  unfolding span_move
  span k g from end to ms on m i h e =
      ⊎_elim (λ (q : m ≡ span_move k g from end to). absurd (no_span i (record { 0 = k }) (sym (ap (λ (x : Move). x.origin) q) ∙ e))) (λ r. on m i r e) (Memᴰ.cases_cons h)

  connector : (k : ℕ) (j : JoinBoundary) (ms : List Move) → ConnectorBound σ.offset j.connector_bulge → Bounded σ ms → Bounded σ (connector_moves k j ++ ms)
  unfolding connector_move connector_moves tip_move
  connector k j ms b on =
      either_tip k j (λ (xs : List Move). Bounded σ ((xs ++ connector_move k j ∷ []) ++ ms)) (λ t. last) (λ t m i h e. ⊎_elim (λ (q : m ≡ tip_move k j). rw (ap (λ (x : Move). x.bulge) q) (zero_bound _)) (λ r. last m i r e) (Memᴰ.cases_cons h))
    where
      last : Bounded σ (connector_move k j ∷ ms)
      last m i h e = ⊎_elim (λ (q : m ≡ connector_move k j). rw (ap (λ (x : Move). x.bulge) q) b) (λ r. on m i r e) (Memᴰ.cases_cons h)

  join-at : (a b c : PlineVertex) → ConnectorBound σ.offset (join_at σ a b c).connector_bulge
  unfolding join_at
  join-at a b c = corner_bound (offset_seg a b σ.offset) (offset_seg b c σ.offset) (pos_of b) σ

  walk_bound : (last : ℕ → RawOffsetSeg → Float → List Move) → ((i : ℕ) (g : RawOffsetSeg) (t : Float) → Bounded σ (last i g t))
      → (i : ℕ) (a b : PlineVertex) (t : Float) (vs : List PlineVertex) → Bounded σ (walk last σ i a b t vs)
  unfolding walk
  walk_bound last h i a b t [] = h i (offset_seg a b σ.offset) t
  walk_bound last h i a b t (c ∷ vs) =
      let j = join_at σ a b c in
      span i (offset_seg a b σ.offset) t j.current_end j.current_param (connector_moves i j ++ walk last σ (suc i) b c j.next_param vs)
      (connector i j (walk last σ (suc i) b c j.next_param vs) (join-at a b c) (walk_bound last h (suc i) b c j.next_param vs))

  open_last_lem : (i : ℕ) (g : RawOffsetSeg) (t : Float) → Bounded σ (open_last i g t)
  unfolding open_last
  open_last_lem i g t = span i g t _ _ [] none

  closed-last : (j : JoinBoundary) → ConnectorBound σ.offset j.connector_bulge → (i : ℕ) (g : RawOffsetSeg) (t : Float) → Bounded σ (closed_last j σ.eps i g t)
  unfolding closed_last when◌give◌else◌
  closed-last j b i g t = by (near j.current_end j.next_start σ.eps)
    where
      by : (n : Bool)
          → Bounded σ
          (when n give span_move i g t j.next_start j.current_param ∷ [] else span_move i g t j.current_end j.current_param ∷ connector_moves i j)
      by true = span i g t _ _ [] none
      by false = span i g t _ _ (connector_moves i j) (subst (Bounded σ) (append-nil (connector_moves i j)) (connector i j [] b none))

  -- a connector of the walk of a, b, vs
  pub connectors_bound : (closed : Bool) (a b : PlineVertex) (vs : List PlineVertex) (m : Move) (i : SourceSegment) →
      Memᴰ m (walk_moves closed σ a b vs) → m.origin ≡ Connector i → ConnectorBound σ.offset m.bulge
  unfolding walk_moves when◌give◌else◌ closing_join
  connectors_bound true a b vs =
      let j = closing_join σ a b vs in
      walk_bound (closed_last j σ.eps) (closed-last j (join-at _ a b)) 0 a b j.next_param (vs ++ a ∷ [])
  connectors_bound false a b vs = walk_bound open_last open_last_lem 0 a b zero vs
