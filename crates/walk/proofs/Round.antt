-- In the round mode a walk is that of 000: each segment's span, and one connector after it, of 000's own join (`round-moves`, `round-start`). Assumes nothing.
use mathlib.Core.Path.{◌≡◌, refl, ap, ◌∙◌}
use mathlib.Core.List.{List, [], ◌∷◌, ◌++◌}
use mathlib.Core.Bool.{Bool, true, false}
use Prim.Native.Nat.{ℕ, suc}
use lib.Ieee.{Float}
use Rattle.floats.specs.Binary64 as B
use Rattle.floats.specs.Choice.{when◌give◌else◌}
use Rattle.vectors.specs.Plane.{near}
use Rattle.vectors.specs.declared.Vector2.{Vector2}
use Rattle.segments.specs.declared.PlineVertex.{PlineVertex}
use Rattle.segments.specs.declared.Settings.{Settings}
use Rattle.segments.specs.declared.RawOffsetSeg.{RawOffsetSeg}
use Rattle.segments.specs.Modes.{are_pointed}
use Rattle.segments.specs.Vertex.{pos_of}
use Rattle.segments.specs.Segment.{offset_seg, start_of}
use Rattle.joins.specs.declared.JoinBoundary.{JoinBoundary}
use Rattle.joins.specs.Join.{join_of}
use Rattle.joins.proofs.Made.{join_unpointed}
use Rattle.joins.proofs.Corner.{round-join}
use Rattle.moves.specs.declared.Move.{Move}
use Rattle.moves.specs.Made.{span_move, connector_move, connector_moves}
use Rattle.moves.proofs.Tips.{no-tip}
use Rattle.walk.specs.Walk.{join_at, walk, open_last, closed_last, last_vertex, closing_join, walk_start, walk_moves}

-- ---- 000's walk (01 §2): joins without a mode, one connector each
abbrev pub plain_join : Settings → PlineVertex → PlineVertex → PlineVertex → JoinBoundary
plain_join σ a b c = join_of (offset_seg a b σ.offset) (offset_seg b c σ.offset) (pos_of b) σ

unfoldable pub plain_walk : (ℕ → RawOffsetSeg → Float → List Move) → Settings → ℕ → PlineVertex → PlineVertex → Float → List PlineVertex → List Move
plain_walk last σ i a b t [] = last i (offset_seg a b σ.offset) t
plain_walk last σ i a b t (c ∷ vs) =
    let j = plain_join σ a b c in
    span_move i (offset_seg a b σ.offset) t j.current_end j.current_param ∷ connector_move i j ∷ plain_walk last σ (suc i) b c j.next_param vs

unfoldable pub plain_last : JoinBoundary → Float → ℕ → RawOffsetSeg → Float → List Move
plain_last closing ε i g t =
    when near closing.current_end closing.next_start ε give span_move i g t closing.next_start closing.current_param ∷ [] else
    span_move i g t closing.current_end closing.current_param ∷ connector_move i closing ∷ []

abbrev pub plain_closing : Settings → PlineVertex → PlineVertex → List PlineVertex → JoinBoundary
plain_closing σ a b vs = plain_join σ (last_vertex b vs) a b

unfoldable pub plain_start : Bool → Settings → PlineVertex → PlineVertex → List PlineVertex → Vector2
plain_start closed σ a b vs = when closed give (plain_closing σ a b vs).next_start else start_of (offset_seg a b σ.offset)

unfoldable pub plain_moves : Bool → Settings → PlineVertex → PlineVertex → List PlineVertex → List Move
plain_moves closed σ a b vs =
    let closing = plain_closing σ a b vs in
    when closed give plain_walk (plain_last closing σ.eps) σ 0 a b closing.next_param (vs ++ a ∷ []) else
    plain_walk open_last σ 0 a b B.zero vs

-- ---- the walk is that one
module _ (σ : Settings) (round : are_pointed σ.corners ≡ false) where
  at_join : (a b c : PlineVertex) → join_at σ a b c ≡ plain_join σ a b c
  unfolding join_at
  at_join a b c = round-join (offset_seg a b σ.offset) (offset_seg b c σ.offset) (pos_of b) σ round

  one-connector : (i : ℕ) (a b c : PlineVertex) → connector_moves i (plain_join σ a b c) ≡ connector_move i (plain_join σ a b c) ∷ []
  one-connector i a b c = no-tip i (plain_join σ a b c) (join_unpointed (offset_seg a b σ.offset) (offset_seg b c σ.offset) (pos_of b) σ)

  walk_plain : (last : ℕ → RawOffsetSeg → Float → List Move) (i : ℕ) (a b : PlineVertex) (t : Float) (vs : List PlineVertex) → walk last σ i a b t vs ≡ plain_walk last σ i a b t vs
  unfolding walk plain_walk
  walk_plain last i a b t [] = refl
  walk_plain last i a b t (c ∷ vs) =
      let g = offset_seg a b σ.offset in
      ap (λ (j : JoinBoundary). span_move i g t j.current_end j.current_param ∷ connector_moves i j ++ walk last σ (suc i) b c j.next_param vs) (at_join a b c)
      ∙ ap (λ (ms : List Move). span_move i g t (plain_join σ a b c).current_end (plain_join σ a b c).current_param ∷ ms ++ walk last σ (suc i) b c (plain_join σ a b c).next_param vs) (one-connector i a b c)
      ∙ ap (λ (ms : List Move). span_move i g t (plain_join σ a b c).current_end (plain_join σ a b c).current_param ∷ connector_move i (plain_join σ a b c) ∷ ms) (walk_plain last (suc i) b c (plain_join σ a b c).next_param vs)

  last_plain : (l a b : PlineVertex) (i : ℕ) (g : RawOffsetSeg) (t : Float) → closed_last (plain_join σ l a b) σ.eps i g t ≡ plain_last (plain_join σ l a b) σ.eps i g t
  unfolding closed_last plain_last
  last_plain l a b i g t = rw (one-connector i l a b)

  -- the same for every segment that it may be
  walk-last : (last last' : ℕ → RawOffsetSeg → Float → List Move) → ((i : ℕ) (g : RawOffsetSeg) (t : Float) → last i g t ≡ last' i g t)
      → (i : ℕ) (a b : PlineVertex) (t : Float) (vs : List PlineVertex) → plain_walk last σ i a b t vs ≡ plain_walk last' σ i a b t vs
  unfolding plain_walk
  walk-last last last' h i a b t [] = h i (offset_seg a b σ.offset) t
  walk-last last last' h i a b t (c ∷ vs) =
      let j = plain_join σ a b c in
      ap (λ (ms : List Move). span_move i (offset_seg a b σ.offset) t j.current_end j.current_param ∷ connector_move i j ∷ ms) (walk-last last last' h (suc i) b c j.next_param vs)

  pub round-moves : (closed : Bool) (a b : PlineVertex) (vs : List PlineVertex) → walk_moves closed σ a b vs ≡ plain_moves closed σ a b vs
  unfolding walk_moves plain_moves closing_join when◌give◌else◌
  round-moves false a b vs = walk_plain open_last 0 a b B.zero vs
  round-moves true a b vs =
      ap (λ (j : JoinBoundary). walk (closed_last j σ.eps) σ 0 a b j.next_param (vs ++ a ∷ [])) (at_join (last_vertex b vs) a b)
      ∙ walk_plain (closed_last (plain_closing σ a b vs) σ.eps) 0 a b (plain_closing σ a b vs).next_param (vs ++ a ∷ []) ∙ walk-last _ _ (last_plain (last_vertex b vs) a b) 0 a b _ (vs ++ a ∷ [])

  pub round-start : (closed : Bool) (a b : PlineVertex) (vs : List PlineVertex) → walk_start closed σ a b vs ≡ plain_start closed σ a b vs
  unfolding walk_start plain_start closing_join when◌give◌else◌
  round-start false a b vs = refl
  round-start true a b vs = ap (λ (j : JoinBoundary). j.next_start) (at_join (last_vertex b vs) a b)
