-- What 02's 2026-01 asks of the answer to each question, held to the job's own answer and buffers. `proofs/Claim.antt` shows it of every job and number. Definitions only.
use Rattle.std.specs.Prelude.{◌≡◌, ◌↔◌, List, Bool, ℕ, ◌-◌, ◌≤◌, ◌<◌, T, get_or, Result, Ok, Err}
use Rattle.std.specs.Float.Ieee.{eq}
use Rattle.floats.specs.Binary64.{zero}
use Rattle.floats.specs.Choice.{when◌give◌else◌}
use Rattle.vectors.specs.declared.Vector2.{Vector2}
use Rattle.segments.specs.declared.PlineVertex.{PlineVertex}
use Rattle.segments.specs.declared.Settings.{Settings}
use Rattle.refusals.specs.declared.Refusal.{Refusal}
use Rattle.refusals.specs.declared.Refusal.TheVariants.{Ragged, TooMany, BadNumber, NoRoom, Repeated, NotFinite, NoSuchSegment}
use Rattle.moves.specs.declared.Move.{Move}
use Rattle.moves.specs.declared.Origin.{Origin}
use Rattle.moves.specs.declared.Origin.TheVariants.{Span, Connector}
use Rattle.moves.specs.declared.Reason.TheVariants.{Meeting, Copied}
use Rattle.moves.specs.declared.RawOffsetResult.{RawOffsetResult}
use Rattle.moves.specs.Reason.{reason_number}
use Rattle.moves.specs.Drawing.{move_end}
use Rattle.moves.specs.Choice.{OneChoice}
use Rattle.walk.specs.Spans.{Edge, whole_start, whole_end, starts_of, ends_of}
use Rattle.walk.specs.Branches.{Is, Made}
use Rattle.job.specs.Rows.{Job, outcome}
use Rattle.job.specs.Demand3.{close, WalkOf}
use Rattle.why.specs.declared.Telling.{Telling}
use Rattle.why.specs.Why.{telling_for, why_of}

-- the answer to the question for output segment k of a job; the job's buffers are not asked for
abbrev pub answered : Job → ℕ → Result Telling Refusal
answered j k = why_of j.source j.closed j.settings k

-- the refusals that are given at all, Nos. 1, 2, 3, 5, 6 and 8: room is never asked for (No. 4), and No. 7 is the program's own
pub data Given : Refusal → Type 0 where
  ragged : Given Ragged
  too_many : Given TooMany
  bad-number : {i : ℕ} → Given (BadNumber i)
  repeated : {i : ℕ} → Given (Repeated i)
  not_finite : Given NotFinite
  no_such_segment : Given NoSuchSegment

-- how many segments an output has: closed, one for each vertex, and open one fewer
abbrev pub segments_in : RawOffsetResult → ℕ
segments_in r = when r.closed give r.vertices else r.vertices - 1

-- the reasons for which a flag is set: 2, 3 and 7 to 11
pub data Flagged (n : ℕ) : Type 0 where
  turned_back : n ≡ 2 → Flagged n
  collapsed : n ≡ 3 → Flagged n
  gap : 7 ≤ n → n ≤ 11 → Flagged n

-- what is told of a move with its origin: of a span, where its row says that it starts and ends
abbrev pub Shows : Bool → Settings → PlineVertex → PlineVertex → List PlineVertex → Telling → Origin → Type 0
Shows closed σ a b vs t (Span i) =
    (s : Edge) × (e : Edge) × Is (starts_of closed σ a b vs) i.0 s × Is (ends_of closed σ a b vs) i.0 e × (t ≡ telling_for s e t.reason (Span i))
Shows closed σ a b vs t (Connector i) = t ≡ telling_for whole_start whole_end t.reason (Connector i)

-- it is the k-th kept move of the walk: of the one choice ks that demand 3 speaks of
pub record KthKept (j : Job) (k : ℕ) (t : Telling) : Type 0 where
  pub start : Vector2
  pub moves : List Move
  pub walk : WalkOf j start moves
  pub ks : List Move
  pub choice : OneChoice move_end (close j) start moves ks
  pub move : Move
  pub kth : Is ks k move
  pub origin : t.origin ≡ move.origin
  pub reason : t.reason ≡ move.reason
  -- each reason is given exactly when the rules took its branch for that move
  pub made : Made j.closed j.settings walk.a walk.b walk.others move move.origin
  -- its parameters and rules are those of its span
  pub shows : Shows j.closed j.settings walk.a walk.b walk.others t move.origin
  -- a meeting connector is never kept
  pub unmet : t.reason ≡ Meeting → ⊥

-- of an accepted job with the counts r
pub record OfDone (j : Job) (k : ℕ) (r : RawOffsetResult) : Type 0 where
  -- No. 8 exactly where there is no such output segment; else it is told
  pub none : (answered j k ≡ Err NoSuchSegment) ↔ (segments_in r ≤ k)
  pub there : k < segments_in r → (t : Telling) × (answered j k ≡ Ok t)
  -- its flag in the job's own answer is set exactly for these reasons
  pub flag : (t : Telling) → answered j k ≡ Ok t → (get_or (outcome j).buffers.flags k 0 ≡ 1) ↔ Flagged (reason_number t.reason)
  -- its origin is the one in the job's own buffer
  pub origin : (t : Telling) → answered j k ≡ Ok t → Is (outcome j).buffers.origins k t.origin
  -- copied, exactly where the offset is zero; else the k-th kept move
  pub copied : (t : Telling) → answered j k ≡ Ok t → T (eq j.settings.offset zero) → t ≡ telling_for whole_start whole_end Copied (Span (record { 0 = k }))
  pub kept : (t : Telling) → answered j k ≡ Ok t → (T (eq j.settings.offset zero) → ⊥) → KthKept j k t

pub record Claim (j : Job) (k : ℕ) : Type 0 where
  -- a job that is refused, but for room, is refused here
  pub refused : (r : Refusal) → (outcome j).answer ≡ Err r → (r ≡ NoRoom → ⊥) → answered j k ≡ Err r
  -- a refusal here is one of those six: room is never asked for
  pub only : (r : Refusal) → answered j k ≡ Err r → Given r
  pub done : (r : RawOffsetResult) → (outcome j).answer ≡ Ok r → OfDone j k r
