-- What the job's inner steps need, and what they make of it. No rule rests on these. Definitions only.
use Rattle.std.specs.Prelude.{◌≡◌, ℕ, ◌≤◌, List, Bool, true, false, length, Float}
use Rattle.segments.specs.declared.Corners.{Corners}
use Rattle.segments.specs.declared.Settings.{Settings}
use Rattle.segments.specs.declared.PlineVertex.{PlineVertex}
use Rattle.sheet.specs.Buffers.{Buffers}
use Rattle.job.specs.Verdict.{room_for, roomy_verdict}
use Rattle.job.specs.Job.{Outcome, placed, has_room}

-- settings with the corners that a mode stands for
abbrev pub settings_by : Float → Float → Corners → Settings
settings_by offset ε c = record { offset = offset; eps = ε; corners = c }

-- the moves of a segment at most, by whether corners are pointed
abbrev pub moves_if : Bool → ℕ
moves_if true = 3
moves_if false = 2

-- v vertices, of which there are two or more
pub record Counted (v : ℕ) (vs : List PlineVertex) : Type 0 where
  pub long : v ≡ length vs
  pub two : 2 ≤ v
  pub most : v ≤ 4096

-- the outcome from No. 4 on
abbrev pub from_room : List PlineVertex → Bool → Settings → Buffers → Outcome
from_room vs closed σ old = let room = room_for σ.corners closed (length vs) in placed room (roomy_verdict (has_room old room) closed σ vs) old
