-- The steps of the walk by value: where it stands, one turn of it, and what its pen draws then. No rule rests on these: `proofs/Turning.antt` and `proofs/Around.antt` tie them to
-- `walk_moves`. A walk carries the current segment along; that it is the segment worked out anew from its vertices is proved there. What it carries leaves a start angle to be
-- worked out, or has it from a join; `stands` is where it stands by the rules. Definitions only.
use Rattle.std.specs.Prelude.{◌≡◌, ℕ, zero, suc, ◌+◌, Bool, List, [], ◌∷◌, ◌++◌, eqb, Float}
use Rattle.floats.specs.Binary64.{one}
use Rattle.floats.specs.Choice.{when◌give◌else◌, ◌and◌}
use Rattle.vectors.specs.declared.Vector2.{Vector2}
use Rattle.segments.specs.declared.Settings.{Settings}
use Rattle.segments.specs.declared.PlineVertex.{PlineVertex}
use Rattle.segments.specs.declared.RawOffsetSeg.{RawOffsetSeg}
use Rattle.segments.specs.declared.RawOffsetSeg.TheVariants.{Line}
use Rattle.segments.specs.declared.SourceSegment.{SourceSegment}
use Rattle.segments.specs.Vertex.{pos_of}
use Rattle.segments.specs.Segment.{offset_seg, start_of, end_of}
use Rattle.segments.specs.InnerSteps.{full_seg, Marked, bulge_by}
use Rattle.joins.specs.declared.JoinBoundary.{JoinBoundary}
use Rattle.joins.specs.declared.JoinCause.TheVariants.{Coincident}
use Rattle.joins.specs.Boundary.{straight}
use Rattle.joins.specs.Corner.{cornered, corner_join}
use Rattle.joins.specs.Rules.{ruled_join}
use Rattle.joins.specs.InnerSteps.{seen_seg}
use Rattle.moves.specs.declared.Move.{Move}
use Rattle.moves.specs.declared.Pen.{Pen}
use Rattle.moves.specs.declared.Stroke.{Stroke}
use Rattle.moves.specs.declared.Stepped.{Stepped}
use Rattle.moves.specs.Made.{span_move, connector_moves}
use Rattle.moves.specs.InnerSteps.{pen_at, step_of, with_bulge, tip_first}
use Rattle.walk.specs.declared.Walk.{Walk}
use Rattle.walk.specs.declared.Turned.{Turned}

-- ---- where a walk stands

-- at a segment, which runs to a vertex and whose span starts at a boundary
pub record Standing : Type 0 where
  pub source : SourceSegment
  pub current : RawOffsetSeg
  pub vertex : PlineVertex
  pub entry : JoinBoundary

abbrev pub stands : Walk → Standing
stands w = record { source = w.source; current = full_seg w.current; vertex = w.vertex; entry = w.entry }

-- and its pen, and how many turns still lead it in
pub record Stood : Type 0 where
  pub walker : Standing
  pub pen : Pen
  pub leading : ℕ

abbrev pub stood : Walk → Stood
stood w = record { walker = stands w; pen = w.pen; leading = w.leading }

-- what it carries can be joined on: an arc is marked by its sweep, and what is known of its start angle is that start angle
pub record Fit (w : Walk) : Type 0 where
  pub marked : Marked w.current
  pub seen : seen_seg w.seen w.current ≡ full_seg w.current

-- at a vertex that no segment leads to, with n turns that lead in from there: a line of no length stands for a segment
unfoldable pub standing_at : PlineVertex → ℕ → Stood
standing_at a n = record {
  walker = record {
    source = record { 0 = 0 };
    current = Line (record { start = pos_of a; end = pos_of a });
    vertex = a;
    entry = straight Coincident (pos_of a) (pos_of a);
  };
  pen = pen_at (pos_of a);
  leading = n;
}

-- where the span of the first segment starts: at the join that led there, or, open, at its own start
unfoldable pub first_entry : Bool → Standing → JoinBoundary
first_entry closed w = when closed give w.entry else straight Coincident (start_of w.current) (start_of w.current)

-- at the same segment, which counts as the first, with the pen where its span starts
unfoldable pub entering : Bool → Standing → Stood
entering closed w = record {
  walker = record { source = record { 0 = 0 }; current = w.current; vertex = w.vertex; entry = first_entry closed w };
  pen = pen_at (first_entry closed w).next_start;
  leading = 0;
}

-- after a turn, before which n turns were to lead in: the last of them brings the walk to its first segment
unfoldable pub after_turn : Bool → Pen → ℕ → Standing → Stood
after_turn closed pen zero w = record { walker = w; pen = pen; leading = 0 }
after_turn closed pen (suc zero) w = entering closed w
after_turn closed pen (suc (suc n)) w = record { walker = w; pen = pen; leading = suc n }

-- ---- one turn

-- the span and the connectors that it makes, the join between them with its rules, and where the walk stands then
pub record Turn : Type 0 where
  pub span : Move
  pub connectors : List Move
  pub join : JoinBoundary
  pub walker : Standing

-- on to the segment from the walk's vertex to c
unfoldable pub turn_to : Standing → PlineVertex → Settings → Turn
turn_to w c σ =
    let next = offset_seg w.vertex c σ.offset in
    let j = corner_join w.current next (pos_of w.vertex) σ in
    record {
      span = span_move w.source.0 w.current w.entry.next_param j.current_end j.current_param;
      connectors = connector_moves w.source.0 j;
      join = cornered w.current next (pos_of w.vertex) σ (ruled_join w.current next (pos_of w.vertex) σ);
      walker = record { source = record { 0 = w.source.0 + 1 }; current = next; vertex = c; entry = j };
    }

-- the moves of the code's, in order: those after its span, and all
abbrev pub after_span : Turned → List Move
after_span t = tip_first t.join t.connector ++ t.connector ∷ []

abbrev pub made_by : Turned → List Move
made_by t = t.span ∷ after_span t

-- the code's: its span has its bulge still to come
abbrev pub turn_shown : Turned → Turn
turn_shown t = record { span = with_bulge (bulge_by t.curved t.sweep) t.span; connectors = after_span t; join = t.join; walker = stands t.walk }

-- the span of the segment that the walk stands at, up to a point of it; to its end
abbrev pub span_to : Standing → Vector2 → Float → Move
span_to w e t = span_move w.source.0 w.current w.entry.next_param e t

unfoldable pub last_span : Standing → Move
last_span w = span_to w (end_of w.current) one

-- what is drawn of a step: its stroke, where it is kept and the walk is led in
unfoldable pub drawn_by : ℕ → Stepped → List Stroke
drawn_by leading st = when eqb leading 0 and st.kept give st.stroke ∷ [] else []

-- moves one after the other: their strokes, and the pen then
unfoldable pub strokes_by : ℕ → Pen → List Move → Float → List Stroke
strokes_by leading pen [] ε = []
strokes_by leading pen (m ∷ ms) ε = drawn_by leading (step_of pen m ε) ++ strokes_by leading (step_of pen m ε).pen ms ε

unfoldable pub pen_by : Pen → List Move → Float → Pen
pen_by pen [] ε = pen
pen_by pen (m ∷ ms) ε = pen_by (step_of pen m ε).pen ms ε

-- one turn, with its strokes
pub record Advance : Type 0 where
  pub strokes : List Stroke
  pub stood : Stood

unfoldable pub advance : Bool → Settings → PlineVertex → Stood → Advance
advance closed σ c w =
    let t = turn_to w.walker c σ in
    record {
      strokes = strokes_by w.leading w.pen (t.span ∷ t.connectors) σ.eps;
      stood = after_turn closed (pen_by w.pen (t.span ∷ t.connectors) σ.eps) w.leading t.walker;
    }

-- ---- a turn for each vertex: where it leads, and the strokes on the way

unfoldable pub goes : Bool → Settings → List PlineVertex → Stood → Stood
goes closed σ [] w = w
goes closed σ (c ∷ vs) w = goes closed σ vs (advance closed σ c w).stood

unfoldable pub drawn_on : Bool → Settings → List PlineVertex → Stood → List Stroke
drawn_on closed σ [] w = []
drawn_on closed σ (c ∷ vs) w = (advance closed σ c w).strokes ++ drawn_on closed σ vs (advance closed σ c w).stood
