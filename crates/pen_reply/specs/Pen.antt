-- What `rawpen` writes for the bytes that it reads, step by step (02's 2026-05): a packed head begins a job, each 24 bytes after it are a vertex, and the end of input is the job's. Each step
-- is a call of the job with room for three segments, and its text is what the call hands out. Definitions only.
use Rattle.std.specs.Prelude.{ℕ, ◌+◌, ◌-◌, List, [], ◌∷◌, ◌++◌, Bool, true, false, eqb, ltb, leb, length, get_or, replicate, Float}
use Rattle.std.specs.Float.Ieee.{eq}
use Rattle.std.specs.Float.{nan}
use Rattle.floats.specs.Binary64.{zero}
use Rattle.floats.specs.Choice.{when◌give◌else◌, ◌and◌}
use Rattle.words.specs.Words.{big_endian, number_at}
use Rattle.segments.specs.declared.PlineVertex.{PlineVertex}
use Rattle.segments.specs.declared.Settings.{Settings}
use Rattle.segments.specs.Modes.{round_by, pointed_by}
use Rattle.refusals.specs.declared.Refusal.TheVariants.{Malformed}
use Rattle.refusals.specs.Table.{number_of, place_of}
use Rattle.source.specs.Source.{rows, vertices_in}
use Rattle.moves.specs.declared.Origin.{Origin}
use Rattle.moves.specs.Origins.{origins_in}
use Rattle.sheet.specs.Buffers.{Buffers, buffers, no_origin}
use Rattle.packed.specs.Text.{space, refusal_of, head_of, mark_of, row_of, line_of, origin_line}
use Rattle.pieces.specs.declared.OpenJob.{OpenJob}
use Rattle.pieces.specs.declared.DrawAnswer.{DrawAnswer}
use Rattle.pieces.specs.Calls.{Started, Called, start_call, draw_call, end_call}
use Rattle.pen_reply.specs.declared.Pen.{Pen}

-- ---- what is read

-- the mode in one byte, 0 round and 1 pointed; then 64 bits each for the offset, ε and the ratio
unfoldable pub well_formed : List ℕ → Bool
well_formed head = eqb (length head) 25 and leb (big_endian head 0 1) 1

unfoldable pub settings_in : List ℕ → Settings
settings_in head = when eqb (big_endian head 0 1) 0 give round_by (number_at head 1) (number_at head 9) else pointed_by (number_at head 1) (number_at head 9) (number_at head 17)

-- a vertex: 64 bits each for x, y and bulge
abbrev pub numbers_in : List ℕ → List Float
numbers_in bytes = number_at bytes 0 ∷ number_at bytes 8 ∷ number_at bytes 16 ∷ []

-- ---- what is written of a call

-- a segment: the line of the vertex that it leaves, as `rawoffset` has it, and then its origin, as `raworigins` has it
unfoldable pub segment_line : PlineVertex → ℕ → Origin → List ℕ
segment_line v flag o = row_of v.x v.y v.bulge (mark_of false flag) space ++ origin_line o

-- the last vertex, which no segment leaves
unfoldable pub last_line : PlineVertex → List ℕ
last_line v = line_of v.x v.y v.bulge (mark_of true 0)

-- vertex i; past the last there is none, as in `line_at`
abbrev pub vertex_at : List PlineVertex → ℕ → PlineVertex
vertex_at vs i = get_or vs i (record { x = nan; y = nan; bulge = nan })

-- place i of the buffers: where a segment was handed out, its line; where a last vertex was, its line
unfoldable pub place_text : DrawAnswer → List PlineVertex → List ℕ → List Origin → ℕ → List ℕ
place_text a vs fs os i =
    when ltb i a.segments give segment_line (vertex_at vs i) (get_or fs i 0) (get_or os i no_origin) else
    when ltb i a.vertices give last_line (vertex_at vs i) else
    []

-- all three places, in order
unfoldable pub piece_text : DrawAnswer → List PlineVertex → List ℕ → List Origin → List ℕ
piece_text a vs fs os = place_text a vs fs os 0 ++ place_text a vs fs os 1 ++ place_text a vs fs os 2

-- at the end, the count of all vertices and the mark of an open answer, in the form of `rawoffset`'s first line
unfoldable pub closing_text : ℕ → DrawAnswer → List PlineVertex → List ℕ → List Origin → List ℕ
closing_text before a vs fs os = piece_text a vs fs os ++ head_of (before + a.vertices) false

-- how many segments were handed out before the end: an offset of zero has copied each vertex but the last
unfoldable pub segments_before : OpenJob → ℕ
segments_before j = when eq j.offset zero give j.course.taken - 1 else j.course.number

-- ---- the steps

-- what a step leaves: the job, whether a vertex may follow, and the text
pub record Said : Type 0 where
  pub job : OpenJob
  pub more : Bool
  pub text : List ℕ

abbrev pub said : OpenJob → Bool → List ℕ → Said
said j m t = record { job = j; more = m; text = t }

-- what the code hands back, with a text beside it
abbrev pub sayings : Pen → List ℕ → Said
sayings p t = said p.job p.more t

-- room for three of each, all zero
abbrev pub blank : Buffers
blank = buffers (rows (replicate 9 zero)) (replicate 3 0) (replicate 3 0) (origins_in (replicate 3 0))

abbrev pub malformed : OpenJob → Said
malformed j = said j false (refusal_of (number_of Malformed) (place_of Malformed))

-- a job that was never open
abbrev pub no_job : OpenJob
no_job = (start_call (round_by zero zero)).job

unfoldable pub start_said : Started → Said
start_said s =
    when eqb s.answer.number 0 give said s.job true [] else
    said s.job false (refusal_of s.answer.number s.answer.place)

unfoldable pub draw_said : Called → Said
draw_said c =
    when eqb c.answer.number 0 give said c.job true (piece_text c.answer (vertices_in c.buffers.vertices) c.buffers.flags c.buffers.origins) else
    said c.job false (refusal_of c.answer.number c.answer.place)

unfoldable pub end_said : ℕ → Called → Said
end_said before c =
    when eqb c.answer.number 0 give said c.job false (closing_text before c.answer (vertices_in c.buffers.vertices) c.buffers.flags c.buffers.origins) else
    said c.job false (refusal_of c.answer.number c.answer.place)

-- the head
unfoldable pub begin_of : List ℕ → Said
begin_of bytes = when well_formed bytes give start_said (start_call (settings_in bytes)) else malformed no_job

-- a vertex
unfoldable pub draw_of : OpenJob → List ℕ → Said
draw_of j bytes = draw_said (draw_call j (numbers_in bytes) blank)

-- the end
unfoldable pub end_of : OpenJob → Said
end_of j = end_said (segments_before j) (end_call j blank)

-- no byte is left: the end; a vertex; and what is cut short is malformed
unfoldable pub next_of : OpenJob → List ℕ → Said
next_of j bytes =
    when eqb (length bytes) 0 give end_of j else
    when eqb (length bytes) 24 give draw_of j bytes else
    malformed j
