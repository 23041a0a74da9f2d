-- Vertices as they are drawn (02's 2026-05): what is held of an open job between two vertices, what each vertex makes certain and hands out, and what the end hands out. A piece
-- handed out has the lists of a drawing: a segment is in it by the vertex that it leaves, its flag, its origin, and its number in the whole job where it is flagged. Definitions only.
use Rattle.std.specs.Prelude.{ℕ, ◌+◌, ◌-◌, List, [], ◌∷◌, ◌++◌, false, not, eqb, ltb, leb, length}
use Rattle.std.specs.Float.Ieee.{eq}
use Rattle.floats.specs.Binary64.{zero}
use Rattle.floats.specs.Choice.{when◌give◌else◌, ◌and◌}
use Rattle.vectors.specs.declared.Vector2.{Vector2}
use Rattle.segments.specs.declared.Settings.{Settings}
use Rattle.segments.specs.declared.PlineVertex.{PlineVertex}
use Rattle.segments.specs.declared.RawOffsetSeg.{RawOffsetSeg}
use Rattle.segments.specs.Vertex.{vertex_at}
use Rattle.segments.specs.Segment.{offset_seg, start_of, is_collapsed}
use Rattle.refusals.specs.declared.Refusal.TheVariants.{TooMany, BadNumber, Repeated, NotFinite}
use Rattle.refusals.specs.Table.{number_of}
use Rattle.refusals.specs.Limits.{good_vertex, repeats}
use Rattle.moves.specs.declared.Move.{Move}
use Rattle.moves.specs.declared.Origin.TheVariants.{Span}
use Rattle.moves.specs.Made.{span_move, connector_moves}
use Rattle.moves.specs.Drawing.{Drawing, nothing, kept, last_point, corners, flags_of, marks, origins_of, all_finite}
use Rattle.walk.specs.Walk.{join_at, open_last}
use Rattle.course.specs.declared.Course.{Course}

-- ---- pieces

-- of kept moves, from the point p and the number n on
abbrev pub piece_from : Vector2 → ℕ → List Move → Drawing
piece_from p n ks = record { vertices = corners p ks; flags = flags_of ks; indexes = marks n ks; origins = origins_of ks; closed = false }

infixr 5 ◌then◌
-- one after another
unfoldable pub ◌then◌ : Drawing → Drawing → Drawing
d then e = record {
  vertices = d.vertices ++ e.vertices;
  flags = d.flags ++ e.flags;
  indexes = d.indexes ++ e.indexes;
  origins = d.origins ++ e.origins;
  closed = false;
}

-- ---- what is held: the last two vertices, the parameter where the span between them starts, the last kept point, how many vertices are taken, and the next output number

abbrev pub no_vertex : PlineVertex
no_vertex = record { x = zero; y = zero; bulge = zero }

-- no vertex is taken
abbrev pub no_course : Course
no_course = record { before = no_vertex; last = no_vertex; start_param = zero; point = record { x = zero; y = zero }; taken = 0; number = 0 }

-- the segment between the two
abbrev pub segment_in : Settings → Course → RawOffsetSeg
segment_in σ w = offset_seg w.before w.last σ.offset

-- ---- what vertex c makes certain

pub record Step : Type 0 where
  pub piece : Drawing
  pub course : Course

-- the first is held
unfoldable pub held : Course → PlineVertex → Course
held w c = record { before = w.before; last = c; start_param = w.start_param; point = w.point; taken = w.taken + 1; number = w.number }

-- the second: the walk starts where the first segment does
unfoldable pub entered : Settings → Course → PlineVertex → Course
entered σ w c = record { before = w.last; last = c; start_param = zero; point = start_of (offset_seg w.last c σ.offset); taken = w.taken + 1; number = w.number }

-- each other: the span of the segment held, and the connectors after it
unfoldable pub turn_moves : Settings → Course → PlineVertex → List Move
turn_moves σ w c =
    let i = w.taken - 2 in
    let j = join_at σ w.before w.last c in
    span_move i (segment_in σ w) w.start_param j.current_end j.current_param ∷ connector_moves i j

unfoldable pub turned : Settings → Course → PlineVertex → Step
turned σ w c =
    let ks = kept σ.eps w.point (turn_moves σ w c) in
    record {
      piece = piece_from w.point w.number ks;
      course = record {
        before = w.last;
        last = c;
        start_param = (join_at σ w.before w.last c).next_param;
        point = last_point w.point ks;
        taken = w.taken + 1;
        number = w.number + length ks;
      };
    }

-- an offset of zero: the vertex before c as it was given, which leaves a segment that is its own span
abbrev pub copy_of : Course → Drawing
copy_of w = record { vertices = w.last ∷ []; flags = 0 ∷ []; indexes = []; origins = Span (record { 0 = w.taken - 1 }) ∷ []; closed = false }

unfoldable pub copies : Course → Drawing
copies w = when eqb w.taken 0 give nothing else copy_of w

unfoldable pub step_on : Settings → Course → PlineVertex → Step
step_on σ w c =
    when eq σ.offset zero give record { piece = copies w; course = held w c } else
    when eqb w.taken 0 give record { piece = nothing; course = held w c } else
    when eqb w.taken 1 give record { piece = nothing; course = entered σ w c } else
    turned σ w c

-- the number of the refusal of c, whose place is the number of vertices taken before it; 0 where it is taken. An offset of zero has neither No. 5 nor No. 6.
unfoldable pub refusal_of : Settings → Course → PlineVertex → ℕ
refusal_of σ w c =
    when leb 4096 w.taken give number_of TooMany else
    when not (good_vertex c) give number_of (BadNumber w.taken) else
    when eq σ.offset zero give 0 else
    when ltb 0 w.taken and repeats w.last c give number_of (Repeated w.taken) else
    when all_finite (step_on σ w c).piece.vertices give 0 else
    number_of NotFinite

-- ---- vertices in turn, up to the first that is refused

-- what is handed out, what is held then, and the number of the refusal, if there was one
pub record Drawn : Type 0 where
  pub piece : Drawing
  pub course : Course
  pub refusal : ℕ

unfoldable pub draw_one : Settings → PlineVertex → Drawn → Drawn
draw_one σ c d =
    let n = refusal_of σ d.course c in
    let s = step_on σ d.course c in
    when not (eqb d.refusal 0) give d else
    when eqb n 0 give record { piece = d.piece then s.piece; course = s.course; refusal = 0 } else
    record { piece = d.piece; course = d.course; refusal = n }

unfoldable pub draw_all : Settings → List PlineVertex → Drawn → Drawn
draw_all σ [] d = d
draw_all σ (c ∷ vs) d = draw_all σ vs (draw_one σ c d)

-- before the first
abbrev pub none_drawn : Course → Drawn
none_drawn w = record { piece = nothing; course = w; refusal = 0 }

-- ---- the end

-- the last span, if it is kept, and the last point; nothing where no move was kept
unfoldable pub last_piece : Settings → Course → Drawing
last_piece σ w =
    let ks = kept σ.eps w.point (open_last (w.taken - 2) (segment_in σ w) w.start_param) in
    when eqb (w.number + length ks) 0 give nothing else record {
      vertices = corners w.point ks ++ vertex_at (last_point w.point ks) zero ∷ [];
      flags = flags_of ks;
      indexes = marks w.number ks;
      origins = origins_of ks;
      closed = false;
    }

-- nothing of fewer than two vertices, and of a lone collapsed arc; of an offset of zero the last vertex as it was given
unfoldable pub end_piece : Settings → Course → Drawing
end_piece σ w =
    when ltb w.taken 2 give nothing else
    when eq σ.offset zero give record { vertices = w.last ∷ []; flags = []; indexes = []; origins = []; closed = false } else
    when eqb w.taken 2 and is_collapsed (segment_in σ w) give nothing else
    last_piece σ w

-- the number of its refusal, or 0
unfoldable pub end_refusal : Settings → Course → ℕ
end_refusal σ w =
    when eq σ.offset zero give 0 else
    when all_finite (end_piece σ w).vertices give 0 else
    number_of NotFinite
