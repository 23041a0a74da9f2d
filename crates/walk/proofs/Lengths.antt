-- How many moves a walk has: of n segments at most 2·n, or 3·n in the pointed mode, and one fewer at least where it is open. So as many places are room for its drawing
-- (`drawing-fits`). Assumes nothing.
use mathlib.Core.Path.{◌≡◌, refl}
use mathlib.Core.List.{List, [], ◌∷◌, ◌++◌}
use mathlib.Core.Bool.{Bool, true, false, false≢true}
use Prim.Native.Nat.{ℕ, suc, ◌+◌, ◌*◌, ◌-◌, ◌≤◌}
use native.Mathlib.Omega.{arith}
use lib.ListN.{length, length-append}
use lib.Ieee.{Float}
use Rattle.floats.specs.Binary64.{zero}
use Rattle.floats.specs.Choice.{when◌give◌else◌}
use Rattle.vectors.specs.Plane.{near}
use Rattle.vectors.specs.declared.Vector2.{Vector2}
use Rattle.segments.specs.declared.PlineVertex.{PlineVertex}
use Rattle.segments.specs.declared.Settings.{Settings}
use Rattle.segments.specs.declared.RawOffsetSeg.{RawOffsetSeg}
use Rattle.segments.specs.declared.Corners.{Corners}
use Rattle.segments.specs.declared.Corners.TheVariants.{Round, Pointed}
use Rattle.segments.specs.Modes.{are_pointed}
use Rattle.segments.specs.Vertex.{pos_of}
use Rattle.segments.specs.Segment.{offset_seg}
use Rattle.joins.specs.Corner.{corner_join}
use Rattle.joins.proofs.Corner.{tip-mode}
use Rattle.moves.specs.declared.Move.{Move}
use Rattle.moves.specs.Made.{connector_move, connector_moves}
use Rattle.moves.specs.Drawing.{Drawing, nothing, move_end, kept, drawn_open, drawn_closed}
use Rattle.moves.specs.InnerSteps.{Fits}
use Rattle.moves.proofs.Kept.{length-kept}
use Rattle.moves.proofs.Tips.{either_tip}
use Rattle.moves.proofs.Shapes.{nothing-fits, fits_open, fits-closed}
use Rattle.source.specs.Source.{segments_of}
use Rattle.source.proofs.Segments.{segments-closed, segments_open}
use Rattle.walk.specs.Walk.{join_at, moves_a_segment, walk, open_last, closed_last, closing_join, walk_start, walk_moves, walk_drawing, drawing_of}

-- ---- the moves of a segment
pub moves-few : (c : Corners) → moves_a_segment c ≤ 3
moves-few Round = omega arith
moves-few (Pointed ratio) = omega arith

pub two-moves : (c : Corners) → 2 ≤ moves_a_segment c
two-moves Round = omega arith
two-moves (Pointed ratio) = omega arith

pub three-moves : (c : Corners) → are_pointed c ≡ true → moves_a_segment c ≡ 3
three-moves Round e = absurd (false≢true e)
three-moves (Pointed ratio) e = refl

-- the connectors of a join, and a span before them
pub connectors-few : (σ : Settings) (i : ℕ) (g h : RawOffsetSeg) (shared : Vector2) → length (connector_moves i (corner_join g h shared σ)) + 1 ≤ moves_a_segment σ.corners
unfolding connector_moves
connectors-few σ i g h shared =
    either_tip i (corner_join g h shared σ) (λ (ms : List Move). length (ms ++ connector_move i (corner_join g h shared σ) ∷ []) + 1 ≤ moves_a_segment σ.corners) (λ e. two-moves σ.corners)
    (λ e. let m = three-moves σ.corners (tip-mode g h shared σ e) in omega arith)

pub joined-few : (σ : Settings) (i : ℕ) (a b c : PlineVertex) → length (connector_moves i (join_at σ a b c)) + 1 ≤ moves_a_segment σ.corners
unfolding join_at
joined-few σ i a b c = connectors-few σ i (offset_seg a b σ.offset) (offset_seg b c σ.offset) (pos_of b)

-- so many for each segment but the last, and n for the last
length-walk : (last : ℕ → RawOffsetSeg → Float → List Move) (n : ℕ) (σ : Settings) → ((i : ℕ) (g : RawOffsetSeg) (t : Float) → length (last i g t) ≤ n)
    → (i : ℕ) (a b : PlineVertex) (t : Float) (vs : List PlineVertex) → length (walk last σ i a b t vs) ≤ moves_a_segment σ.corners * length vs + n
unfolding walk
length-walk last n σ h i a b t [] = omega (arith, h i (offset_seg a b σ.offset) t)
length-walk last n σ h i a b t (c ∷ vs) =
    let j = join_at σ a b c in
    let rest = walk last σ (suc i) b c j.next_param vs in
    omega (arith, length-walk last n σ h (suc i) b c j.next_param vs, joined-few σ i a b c, length-append (connector_moves i j) rest)

one_last : (i : ℕ) (g : RawOffsetSeg) (t : Float) → length (open_last i g t) ≤ 1
unfolding open_last
one_last i g t = omega arith

closed-last : (σ : Settings) (l a b : PlineVertex) (i : ℕ) (g : RawOffsetSeg) (t : Float) → length (closed_last (join_at σ l a b) σ.eps i g t) ≤ moves_a_segment σ.corners
unfolding closed_last
closed-last σ l a b i g t = by (near (join_at σ l a b).current_end (join_at σ l a b).next_start σ.eps) _ _
  where
    by : (n : Bool) (m k : Move) → length (when n give m ∷ [] else k ∷ connector_moves i (join_at σ l a b)) ≤ moves_a_segment σ.corners
    by true m k = unfold when◌give◌else◌ in omega (arith, two-moves σ.corners)
    by false m k = unfold when◌give◌else◌ in omega (arith, joined-few σ i l a b)

-- ---- of a source a, b, vs
module _ (σ : Settings) (a b : PlineVertex) (vs : List PlineVertex) where
  pub open_most : length (walk_moves false σ a b vs) ≤ moves_a_segment σ.corners * length vs + 1
  unfolding walk_moves when◌give◌else◌
  open_most = length-walk open_last 1 σ one_last 0 a b zero vs

  pub closed-most : length (walk_moves true σ a b vs) ≤ moves_a_segment σ.corners * (length vs + 2)
  unfolding walk_moves when◌give◌else◌ closing_join
  closed-most =
      let j = closing_join σ a b vs in
      let l : length (vs ++ a ∷ []) ≡ length vs + 1 = omega (arith, length-append vs (a ∷ [])) in
      omega (arith, rw l at (length-walk (closed_last j σ.eps) _ σ (closed-last σ _ a b) 0 a b j.next_param (vs ++ a ∷ [])))

  -- ---- the drawing fits
  pub open_drawing : walk_drawing false σ a b vs ≡ drawn_open (walk_start false σ a b vs) (kept σ.eps (walk_start false σ a b vs) (walk_moves false σ a b vs))
  unfolding walk_drawing when◌give◌else◌
  open_drawing = refl

  pub closed-drawing : walk_drawing true σ a b vs ≡ drawn_closed (walk_start true σ a b vs) (kept σ.eps (walk_start true σ a b vs) (walk_moves true σ a b vs))
  unfolding walk_drawing when◌give◌else◌
  closed-drawing = refl

  few : (closed : Bool) → let p = walk_start closed σ a b vs in length (kept σ.eps p (walk_moves closed σ a b vs)) ≤ length (walk_moves closed σ a b vs)
  few closed = length-kept move_end (λ x y. near x y σ.eps) _ _

  walk-fits : (closed : Bool) → Fits (moves_a_segment σ.corners * segments_of closed (length (a ∷ b ∷ vs))) (walk_drawing closed σ a b vs)
  walk-fits false =
      let n = open_most in
      let m = two-moves σ.corners in
      let e : length (a ∷ b ∷ vs) - 1 ≡ length vs + 1 = omega arith in
      rw (segments_open (length (a ∷ b ∷ vs)) (omega arith), e, open_drawing) (fits_open _ _ _ (omega (arith, few false)))
  walk-fits true =
      let n = closed-most in
      rw (segments-closed (length (a ∷ b ∷ vs)) (omega arith), closed-drawing) (fits-closed _ _ _ (omega (arith, few true)))

either_fits : (t : Bool) (room : ℕ) (d : Drawing) → Fits room d → Fits room (when t give nothing else d)
unfolding when◌give◌else◌
either_fits true room d h = nothing-fits room
either_fits false room d h = h

pub drawing-fits : (closed : Bool) (σ : Settings) (vs : List PlineVertex) → Fits (moves_a_segment σ.corners * segments_of closed (length vs)) (drawing_of closed σ vs)
unfolding drawing_of
drawing-fits closed σ [] = nothing-fits _
drawing-fits closed σ (a ∷ []) = nothing-fits _
drawing-fits closed σ (a ∷ b ∷ vs) = either_fits _ _ _ (walk-fits σ a b vs closed)
