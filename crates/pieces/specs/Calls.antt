-- The three calls of an open job whose vertices are drawn (02's 2026-05): start, vertices, end. Each takes the record of the job, and says the answer, the record after it and what
-- the buffers hold then. Any record is one: where it is none that a job can have, there is no open job. Definitions only.
use Rattle.std.specs.Prelude.{ℕ, ◌*◌, ◌-◌, List, Bool, not, eqb, leb, length, Float}
use Rattle.floats.specs.Binary64.{zero}
use Rattle.floats.specs.Choice.{when◌give◌else◌, ◌and◌, ◌or◌}
use Rattle.segments.specs.declared.Corners.{Corners}
use Rattle.segments.specs.declared.Corners.TheVariants.{Round, Pointed}
use Rattle.segments.specs.declared.Settings.{Settings}
use Rattle.segments.specs.Modes.{round_by, pointed_by}
use Rattle.source.specs.Source.{rows, vertices_of, is_whole}
use Rattle.refusals.specs.declared.Refusal.{Refusal}
use Rattle.refusals.specs.declared.Refusal.TheVariants.{Ragged, TooMany, BadNumber, NoRoom, Repeated, NotFinite, NoOpenJob}
use Rattle.refusals.specs.Table.{number_of}
use Rattle.refusals.specs.Limits.{good_offset, good_eps, good_corners}
use Rattle.moves.specs.Drawing.{Drawing, nothing}
use Rattle.walk.specs.Walk.{moves_a_segment}
use Rattle.sheet.specs.Buffers.{Buffers, padded, no_origin, laid_in}
use Rattle.job.specs.Job.{has_room}
use Rattle.course.specs.declared.Course.{Course}
use Rattle.course.specs.Course.{no_course, Drawn, draw_all, none_drawn, end_piece, end_refusal}
use Rattle.pieces.specs.declared.OpenJob.{OpenJob}
use Rattle.pieces.specs.declared.DrawAnswer.{DrawAnswer}

-- ---- the record

-- its stages; any other is none
abbrev pub drawing : ℕ
drawing = 1

abbrev pub ended : ℕ
ended = 2

abbrev pub refused : ℕ
refused = 3

-- what the job asks for
unfoldable pub settings_of : OpenJob → Settings
settings_of j = when eqb j.pointed 0 give round_by j.offset j.eps else pointed_by j.offset j.eps j.ratio

-- so many output segments have v vertices made certain at most
abbrev pub most_number : Settings → ℕ → ℕ
most_number σ v = moves_a_segment σ.corners * (v - 2)

-- an open job: its mode is one of two, nothing has refused it, and it has no more vertices and output segments than a job can have
unfoldable pub is_open : OpenJob → Bool
is_open j =
    eqb j.stage drawing and (leb j.pointed 1 and (eqb j.refusal 0 and (eqb j.place 0
    and (leb j.course.taken 4096 and leb j.course.number (most_number (settings_of j) j.course.taken)))))

-- a job that a refusal has ended, by its number one of four
unfoldable pub was_refused : OpenJob → Bool
was_refused j =
    eqb j.stage refused and (leb j.place 4096
    and (eqb j.refusal (number_of TooMany) or (eqb j.refusal (number_of (BadNumber 0)) or (eqb j.refusal (number_of (Repeated 0)) or eqb j.refusal (number_of NotFinite)))))

-- ---- what a call leaves

-- number and place, and how many vertices, indexes and segments are handed out
abbrev pub answering : ℕ → ℕ → Drawing → DrawAnswer
answering n k d = record { number = n; place = k; vertices = length d.vertices; indexes = length d.indexes; segments = length d.flags }

pub record Called : Type 0 where
  pub answer : DrawAnswer
  pub job : OpenJob
  pub buffers : Buffers

abbrev pub called : DrawAnswer → OpenJob → Buffers → Called
called a j b = record { answer = a; job = j; buffers = b }

-- a piece in the first places of each buffer, and all other places as they were
unfoldable pub handed_out : Drawing → Buffers → Buffers
handed_out d old = record {
  vertices = laid_in (length d.vertices) d.vertices old.vertices;
  flags = padded 0 (length d.flags) d.flags old.flags;
  indexes = padded 0 (length d.indexes) d.indexes old.indexes;
  origins = padded no_origin (length d.origins) d.origins old.origins;
}

-- the same job at another stage: with a refusal at a place, or none, and with another course
abbrev pub staged : ℕ → ℕ → ℕ → Course → OpenJob → OpenJob
staged s n k w j = record { offset = j.offset; eps = j.eps; ratio = j.ratio; pointed = j.pointed; stage = s; refusal = n; place = k; course = w }

-- a call that changes nothing: where there is no open job, an old refusal is given again, and else No. 9
unfoldable pub shut_answer : OpenJob → DrawAnswer
shut_answer j = when was_refused j give answering j.refusal j.place nothing else answering (number_of NoOpenJob) 0 nothing

abbrev pub unchanged : Refusal → OpenJob → Buffers → Called
unchanged r j old = called (answering (number_of r) 0 nothing) j old

-- ---- the calls

abbrev pub ratio_of : Corners → Float
ratio_of Round = zero
ratio_of (Pointed ratio) = ratio

abbrev pub mode_of : Corners → ℕ
mode_of Round = 0
mode_of (Pointed ratio) = 1

-- a job with no vertex, at a stage
abbrev pub begun : Settings → ℕ → ℕ → OpenJob
begun σ s n = record { offset = σ.offset; eps = σ.eps; ratio = ratio_of σ.corners; pointed = mode_of σ.corners; stage = s; refusal = n; place = 0; course = no_course }

pub record Started : Type 0 where
  pub answer : DrawAnswer
  pub job : OpenJob

abbrev pub started : DrawAnswer → OpenJob → Started
started a j = record { answer = a; job = j }

-- start: whatever the record was. A bad offset, tolerance or ratio is refused at place 0
unfoldable pub start_call : Settings → Started
start_call σ =
    when good_offset σ.offset and (good_eps σ.eps and good_corners σ.corners) give started (answering 0 0 nothing) (begun σ drawing 0) else
    started (answering (number_of (BadNumber 0)) 0 nothing) (begun σ refused (number_of (BadNumber 0)))

-- what drawn vertices leave: an open job, or a refusal at the vertex that it is of
unfoldable pub drawn_call : OpenJob → Drawn → Buffers → Called
drawn_call j d old =
    let k = d.course.taken in
    when eqb d.refusal 0 give called (answering 0 0 d.piece) (staged drawing 0 0 d.course j) (handed_out d.piece old) else
    called (answering d.refusal k d.piece) (staged refused d.refusal k d.course j) (handed_out d.piece old)

-- vertices: room is for two segments of each in every buffer, three in the pointed mode, before any is looked at
unfoldable pub draw_call : OpenJob → List Float → Buffers → Called
draw_call j source old =
    let σ = settings_of j in
    let vs = vertices_of source in
    when not (is_open j) give called (shut_answer j) j old else
    when not (is_whole (rows source)) give unchanged Ragged j old else
    when not (has_room old (moves_a_segment σ.corners * length vs)) give unchanged NoRoom j old else
    drawn_call j (draw_all σ vs (none_drawn j.course)) old

-- the end, with room for two
unfoldable pub end_call : OpenJob → Buffers → Called
end_call j old =
    let σ = settings_of j in
    let w = j.course in
    let n = end_refusal σ w in
    when not (is_open j) give called (shut_answer j) j old else
    when not (has_room old 2) give unchanged NoRoom j old else
    when eqb n 0 give called (answering 0 0 (end_piece σ w)) (staged ended 0 0 w j) (handed_out (end_piece σ w) old) else
    called (answering n w.taken nothing) (staged refused n w.taken w j) old
