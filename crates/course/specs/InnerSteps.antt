-- The steps of the code, by strokes: which strokes a vertex and the end draw, and the piece that strokes are. No rule rests on these: `proofs/Strokes.antt` ties them to the
-- pieces of the rules. Definitions only.
use Rattle.std.specs.Prelude.{◌≡◌, ℕ, ◌+◌, ◌*◌, ◌-◌, ◌≤◌, ◌<◌, List, [], ◌∷◌, ◌++◌, map, Bool, true, false, not, eqb, ltb, leb, Float, Option, Some, None, Result, Ok, Err}
use Rattle.std.specs.Float.Ieee.{eq}
use Rattle.std.specs.Option.{option_to_list}
use Rattle.floats.specs.Binary64.{zero}
use Rattle.floats.specs.Choice.{when◌give◌else◌, ◌and◌}
use Rattle.segments.specs.declared.Settings.{Settings}
use Rattle.segments.specs.declared.PlineVertex.{PlineVertex}
use Rattle.segments.specs.Modes.{are_pointed}
use Rattle.segments.specs.Segment.{offset_seg}
use Rattle.refusals.specs.declared.Refusal.{Refusal}
use Rattle.refusals.specs.declared.Refusal.TheVariants.{TooMany, BadNumber, Repeated}
use Rattle.refusals.specs.Table.{number_of}
use Rattle.refusals.specs.Limits.{good_vertex, repeats}
use Rattle.joins.specs.declared.JoinBoundary.{JoinBoundary}
use Rattle.joins.specs.declared.JoinCause.TheVariants.{Coincident}
use Rattle.moves.specs.declared.Pen.{Pen}
use Rattle.moves.specs.declared.Stroke.{Stroke}
use Rattle.moves.specs.declared.Origin.TheVariants.{Span}
use Rattle.moves.specs.declared.Reason.TheVariants.{Copied}
use Rattle.moves.specs.Reason.{is_invalid}
use Rattle.moves.specs.Drawing.{Drawing, nothing, bit, mark}
use Rattle.sheet.specs.InnerSteps.{Coded}
use Rattle.walk.specs.InnerSteps.{Stood, drawn_by, strokes_by}
use Rattle.course.specs.declared.Course.{Course}
use Rattle.course.specs.declared.Turning.{Turning}
use Rattle.course.specs.declared.Ending.{Ending}
use Rattle.course.specs.Course.{turn_moves}

-- ---- the piece that strokes are

unfoldable pub numbers_by : List Stroke → List ℕ
numbers_by [] = []
numbers_by (s ∷ ss) = mark (is_invalid s.reason) s.number.0 (numbers_by ss)

abbrev pub vertices_by : List Stroke → List PlineVertex
vertices_by ss = map (λ (s : Stroke). s.vertex) ss

abbrev pub piece_by : List Stroke → Drawing
piece_by ss = record {
  vertices = vertices_by ss;
  flags = map (λ (s : Stroke). bit (is_invalid s.reason)) ss;
  indexes = numbers_by ss;
  origins = map (λ (s : Stroke). s.origin) ss;
  closed = false;
}

-- ---- the walk that is left between two vertices, and taken up again

abbrev pub pen_in : Course → Pen
pen_in w = record { last = w.point; number = record { 0 = w.number } }

-- all that a boundary tells a walk that is led in is the parameter where its span starts
abbrev pub entry_in : Course → JoinBoundary
entry_in w = record {
  cause = Coincident;
  current_rule = None;
  next_rule = None;
  current_end = w.point;
  current_param = zero;
  next_start = w.point;
  next_param = w.start_param;
  connector_bulge = zero;
  tip = w.point;
}

unfoldable pub stood_in : Float → Course → Stood
stood_in offset w = record {
  walker = record { source = record { 0 = w.taken - 2 }; current = offset_seg w.before w.last offset; vertex = w.last; entry = entry_in w };
  pen = pen_in w;
  leading = 0;
}

-- ---- the strokes of vertex c

abbrev pub copy_stroke : Course → Stroke
copy_stroke w = record { vertex = w.last; reason = Copied; origin = Span (record { 0 = w.taken - 1 }); number = record { 0 = w.taken - 1 } }

unfoldable pub copy_strokes : Course → List Stroke
copy_strokes w = when eqb w.taken 0 give [] else copy_stroke w ∷ []

unfoldable pub turn_strokes : Settings → Course → PlineVertex → List Stroke
turn_strokes σ w c = strokes_by 0 (pen_in w) (turn_moves σ w c) σ.eps

unfoldable pub step_strokes : Settings → Course → PlineVertex → List Stroke
step_strokes σ w c =
    when eq σ.offset zero give copy_strokes w else
    when ltb w.taken 2 give [] else
    turn_strokes σ w c

-- as the code has them
unfoldable pub strokes_in : Turning → List Stroke
strokes_in t = drawn_by 0 t.span ++ (drawn_by 0 t.tip ++ drawn_by 0 t.connector)

-- what is held after c, with the pen p
abbrev pub left_at : Course → PlineVertex → Float → Pen → Course
left_at w c t p = record { before = w.last; last = c; start_param = t; point = p.last; taken = w.taken + 1; number = p.number.0 }

-- what a turn needs
pub record Able (w : Course) (σ : Settings) (pointed : Bool) : Type 0 where
  pub taken : w.taken < 4096
  pub number : w.number ≤ 3 * w.taken
  pub told : pointed ≡ are_pointed σ.corners

-- each stroke has an origin whose number fits its place
pub record CodedAll (t : Turning) : Type 0 where
  pub span : Coded t.span.stroke.origin
  pub tip : Coded t.tip.stroke.origin
  pub connector : Coded t.connector.stroke.origin

-- the refusals that are told before the strokes are, and their numbers
unfoldable pub checked : Float → Course → PlineVertex → Result (Unit {0}) Refusal
checked offset w c =
    when leb 4096 w.taken give Err TooMany else
    when not (good_vertex c) give Err (BadNumber w.taken) else
    when eq offset zero give Ok tt else
    when ltb 0 w.taken and repeats w.last c give Err (Repeated w.taken) else
    Ok tt

unfoldable pub early : Float → Course → PlineVertex → ℕ
early offset w c =
    when leb 4096 w.taken give number_of TooMany else
    when not (good_vertex c) give number_of (BadNumber w.taken) else
    when eq offset zero give 0 else
    when ltb 0 w.taken and repeats w.last c give number_of (Repeated w.taken) else
    0

-- ---- the end: the last span, drawn or not, and a last vertex, or none

unfoldable pub ending_piece : Ending → Drawing
ending_piece e = record {
  vertices = vertices_by (drawn_by 0 e.span) ++ option_to_list e.last;
  flags = (piece_by (drawn_by 0 e.span)).flags;
  indexes = (piece_by (drawn_by 0 e.span)).indexes;
  origins = (piece_by (drawn_by 0 e.span)).origins;
  closed = false;
}

-- no stroke, and a last vertex or none
abbrev pub just_ending : Option PlineVertex → Drawing
just_ending (Some v) = record { vertices = v ∷ []; flags = []; indexes = []; origins = []; closed = false }
just_ending None = nothing
