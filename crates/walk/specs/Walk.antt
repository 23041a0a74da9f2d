-- The moves of a walk over a source (01 §2, Moves; 000's build_open and build_closed), and what the kept ones draw. A segment is worked out anew from its vertices
-- wherever it is named. Definitions only.
use Rattle.std.specs.Prelude.{ℕ, zero, suc, List, [], ◌∷◌, ◌++◌, Bool, true, false, length, replicate, Float}
use Rattle.floats.specs.Binary64 as B
use Rattle.floats.specs.Binary64.{one}
use Rattle.floats.specs.Choice.{when◌give◌else◌}
use Rattle.vectors.specs.Plane.{near}
use Rattle.vectors.specs.declared.Vector2.{Vector2}
use Rattle.segments.specs.declared.Corners.{Corners}
use Rattle.segments.specs.declared.Corners.TheVariants.{Round, Pointed}
use Rattle.segments.specs.declared.Settings.{Settings}
use Rattle.segments.specs.declared.PlineVertex.{PlineVertex}
use Rattle.segments.specs.declared.RawOffsetSeg.{RawOffsetSeg}
use Rattle.segments.specs.Vertex.{pos_of}
use Rattle.segments.specs.Segment.{offset_seg, start_of, end_of, is_collapsed}
use Rattle.source.specs.Source.{segments_of}
use Rattle.joins.specs.declared.JoinBoundary.{JoinBoundary}
use Rattle.joins.specs.Corner.{corner_join}
use Rattle.moves.specs.declared.Move.{Move}
use Rattle.moves.specs.declared.Origin.{Origin}
use Rattle.moves.specs.declared.Origin.TheVariants.{Span}
use Rattle.moves.specs.Made.{span_move, connector_moves}
use Rattle.moves.specs.Drawing.{Drawing, nothing, kept, drawn_open, drawn_closed}

-- the join of the segments a to b and b to c, in the mode that is asked for
unfoldable pub join_at : Settings → PlineVertex → PlineVertex → PlineVertex → JoinBoundary
join_at σ a b c = corner_join (offset_seg a b σ.offset) (offset_seg b c σ.offset) (pos_of b) σ

-- the moves of a segment at most: 01's two, its span and a connector, and three in the pointed mode
abbrev pub moves_a_segment : Corners → ℕ
moves_a_segment Round = 2
moves_a_segment (Pointed ratio) = 3

-- From segment i on, which runs from a to b and whose span starts at the parameter t: span, connector, and so on over the vertices after b. `last` has the moves of
-- the last segment, from its number, itself and the parameter where its span starts.
unfoldable pub walk : (ℕ → RawOffsetSeg → Float → List Move) → Settings → ℕ → PlineVertex → PlineVertex → Float → List PlineVertex → List Move
walk last σ i a b t [] = last i (offset_seg a b σ.offset) t
walk last σ i a b t (c ∷ vs) =
    let j = join_at σ a b c in
    span_move i (offset_seg a b σ.offset) t j.current_end j.current_param ∷ connector_moves i j ++ walk last σ (suc i) b c j.next_param vs

-- open: the last span runs to its segment's end
unfoldable pub open_last : ℕ → RawOffsetSeg → Float → List Move
open_last i g t = span_move i g t (end_of g) one ∷ []

-- closed: where the closing join's two ends are within ε, the last span is the closing move and ends at the first vertex; otherwise it ends at the join's current
-- end, and the closing connector, or the last of two, ends at the first vertex
unfoldable pub closed_last : JoinBoundary → Float → ℕ → RawOffsetSeg → Float → List Move
closed_last closing ε i g t =
    when near closing.current_end closing.next_start ε give span_move i g t closing.next_start closing.current_param ∷ [] else
    span_move i g t closing.current_end closing.current_param ∷ connector_moves i closing

-- the last of a and the vertices after it
unfoldable pub last_vertex : PlineVertex → List PlineVertex → PlineVertex
last_vertex a [] = a
last_vertex a (b ∷ vs) = last_vertex b vs

-- the join that closes the source a, b, vs: of its last segment, back to a, and its first
unfoldable pub closing_join : Settings → PlineVertex → PlineVertex → List PlineVertex → JoinBoundary
closing_join σ a b vs = join_at σ (last_vertex b vs) a b

-- where the walk of a, b, vs starts: at the first segment's start, or, closed, at the closing join's next start
unfoldable pub walk_start : Bool → Settings → PlineVertex → PlineVertex → List PlineVertex → Vector2
walk_start closed σ a b vs = when closed give (closing_join σ a b vs).next_start else start_of (offset_seg a b σ.offset)

-- its moves
unfoldable pub walk_moves : Bool → Settings → PlineVertex → PlineVertex → List PlineVertex → List Move
walk_moves closed σ a b vs =
    let closing = closing_join σ a b vs in
    when closed give walk (closed_last closing σ.eps) σ 0 a b closing.next_param (vs ++ a ∷ []) else
    walk open_last σ 0 a b B.zero vs

-- what the kept ones draw
unfoldable pub walk_drawing : Bool → Settings → PlineVertex → PlineVertex → List PlineVertex → Drawing
walk_drawing closed σ a b vs =
    let p = walk_start closed σ a b vs in
    let ks = kept σ.eps p (walk_moves closed σ a b vs) in
    when closed give drawn_closed p ks else drawn_open p ks

-- a lone segment, which is open, and which is a collapsed arc
unfoldable pub lone_collapsed : Bool → Settings → List PlineVertex → Bool
lone_collapsed true σ vs = false
lone_collapsed false σ [] = false
lone_collapsed false σ (a ∷ []) = false
lone_collapsed false σ (a ∷ b ∷ []) = is_collapsed (offset_seg a b σ.offset)
lone_collapsed false σ (a ∷ b ∷ c ∷ vs) = false

-- the drawing of a source: nothing of fewer than two vertices, and nothing of a lone collapsed arc
unfoldable pub drawing_of : Bool → Settings → List PlineVertex → Drawing
drawing_of closed σ [] = nothing
drawing_of closed σ (a ∷ []) = nothing
drawing_of closed σ (a ∷ b ∷ vs) = when lone_collapsed closed σ (a ∷ b ∷ vs) give nothing else walk_drawing closed σ a b vs

-- the spans of n segments, from segment i on
unfoldable pub spans_from : ℕ → ℕ → List Origin
spans_from i zero = []
spans_from i (suc n) = Span (record { 0 = i }) ∷ spans_from (suc i) n

-- an offset of zero: the source and its closed mark, no flag set; each segment is its own span
unfoldable pub copied : Bool → List PlineVertex → Drawing
copied closed vs =
    let n = segments_of closed (length vs) in
    record { vertices = vs; flags = replicate n 0; indexes = []; origins = spans_from 0 n; closed = closed }
