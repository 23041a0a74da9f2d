-- The law of 02's 2026-05: of an open job that the whole form accepts, the joined pieces of its calls are its vertices, flags, indexes and origins, however its vertices are grouped; and
-- what a job has handed out, up to a refusal or not, is the beginning of what the rules draw of the vertices given. Pieces are read off the answers and the buffers of the calls.
-- `proofs/Claim.antt` shows it. Definitions only.
use Rattle.std.specs.Prelude.{◌≡◌, List, [], ◌∷◌, ◌++◌, true, false, length, take, Float, ℕ, ◌*◌, ◌-◌}
use Rattle.segments.specs.declared.Settings.{Settings}
use Rattle.source.specs.Source.{rows, vertices_of, vertices_in, Whole}
use Rattle.moves.specs.Drawing.{Drawing, nothing}
use Rattle.walk.specs.Walk.{moves_a_segment}
use Rattle.sheet.specs.Buffers.{Buffers}
use Rattle.job.specs.Job.{result_in, has_room}
use Rattle.refusals.specs.Table.{number}
use Rattle.job.specs.Rows.{Job, outcome}
use Rattle.course.specs.Course.{◌then◌}
use Rattle.course.specs.Joined.{drawn_whole, Beginning}
use Rattle.pieces.specs.declared.OpenJob.{OpenJob}
use Rattle.pieces.specs.Calls.{Called, start_call, draw_call, end_call}

-- ---- calls one after another

-- what is lent to one call: numbers, and buffers
pub record Sent : Type 0 where
  pub source : List Float
  pub buffers : Buffers

-- no number is left over, and there is room
pub record Fits (σ : Settings) (s : Sent) : Type 0 where
  pub whole : Whole (rows s.source)
  pub room : has_room s.buffers (moves_a_segment σ.corners * length (vertices_of s.source)) ≡ true

-- so does each
pub data AllFit (σ : Settings) : List Sent → Type 0 where
  none : AllFit σ []
  more : {s : Sent} {ss : List Sent} → Fits σ s → AllFit σ ss → AllFit σ (s ∷ ss)

-- all numbers, in order
unfoldable pub numbers_of : List Sent → List Float
numbers_of [] = []
numbers_of (s ∷ ss) = s.source ++ numbers_of ss

-- the calls from a record on, and the record after them
unfoldable pub calls : OpenJob → List Sent → List Called
calls j [] = []
calls j (s ∷ ss) = draw_call j s.source s.buffers ∷ calls (draw_call j s.source s.buffers).job ss

unfoldable pub after : OpenJob → List Sent → OpenJob
after j [] = j
after j (s ∷ ss) = after (draw_call j s.source s.buffers).job ss

-- ---- pieces

-- what stands in the first places: so many vertices, segments and indexes
abbrev pub first : ℕ → ℕ → ℕ → Buffers → Drawing
first v f i b = record { vertices = take v (vertices_in b.vertices); flags = take f b.flags; indexes = take i b.indexes; origins = take f b.origins; closed = false }

-- of a call, by its answer
unfoldable pub handed : Called → Drawing
handed c = first c.answer.vertices c.answer.segments c.answer.indexes c.buffers

-- of a whole open job: it has one segment fewer than vertices
unfoldable pub output : Job → Drawing
output j = let r = result_in (outcome j).answer in first r.vertices (r.vertices - 1) r.indexes (outcome j).buffers

-- joined
unfoldable pub join : List Called → Drawing
join [] = nothing
join (c ∷ cs) = handed c then join cs

-- each is done
pub data AllDone : List Called → Type 0 where
  none : AllDone []
  more : {c : Called} {cs : List Called} → c.answer.number ≡ 0 → AllDone cs → AllDone (c ∷ cs)

-- ---- the law

-- the calls of a job: a start, the vertices sent, and an end with buffers lent to it
abbrev pub begun_by : Settings → OpenJob
begun_by σ = (start_call σ).job

pub record Joined (j : Job) (ss : List Sent) (last : Buffers) : Type 0 where
  pub started : (start_call j.settings).answer.number ≡ 0
  pub done : AllDone (calls (begun_by j.settings) ss)
  pub ended : (end_call (after (begun_by j.settings) ss) last).answer.number ≡ 0
  pub pieces : join (calls (begun_by j.settings) ss) then handed (end_call (after (begun_by j.settings) ss) last) ≡ output j

-- of each open job that is accepted, sent in any groups with room
abbrev pub Law : Type 0
Law = (j : Job) (ss : List Sent) (last : Buffers) → j.closed ≡ false → number (outcome j).answer ≡ 0 → j.source ≡ rows (numbers_of ss) → AllFit j.settings ss → has_room last 2 ≡ true → Joined j ss last

-- of any vertices sent
abbrev pub Begins : Type 0
Begins = (σ : Settings) (ss : List Sent) → AllFit σ ss → Beginning (join (calls (begun_by σ) ss)) (drawn_whole σ (vertices_of (numbers_of ss)))
