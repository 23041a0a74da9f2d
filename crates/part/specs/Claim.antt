-- What 02's 2026-09 says of parts: over any origins (`First`; shown in `proofs/Row.antt`), and after a done job, held to the job's own answer and buffers (`Claim`; shown of every
-- done job and every number in `proofs/Claim.antt`). Definitions only.
use Rattle.std.specs.Prelude.{◌≡◌, ◌↔◌, ℕ, ◌+◌, ◌≤◌, ◌<◌, T, length, take, Result, Ok, Err}
use mathlib.Core.List.{List, map, Memᴰ}
use Rattle.std.specs.Float.Ieee.{eq}
use Rattle.floats.specs.Binary64.{zero}
use Rattle.source.specs.Source.{segments_of}
use Rattle.refusals.specs.declared.Refusal.{Refusal}
use Rattle.refusals.specs.declared.Refusal.TheVariants.{NoSuchSourceSegment}
use Rattle.moves.specs.declared.Origin.{Origin}
use Rattle.moves.specs.Made.{segment_of}
use Rattle.moves.specs.Drawing.{Drawing, result_of}
use Rattle.moves.specs.Choice.{NeverFalling}
use Rattle.moves.specs.Sound.{segment_count}
use Rattle.walk.specs.Branches.{Is}
use Rattle.job.specs.Rows.{Job, outcome, count}
use Rattle.part.specs.declared.Bounds.{Bounds}
use Rattle.part.specs.Part.{part_at, part_of, part_answer}

-- ---- over any origins

-- place i lies in a part
abbrev pub In : Bounds → ℕ → Type 0
In part i = (part.start.0 ≤ i) × (i < part.start.0 + part.count)

-- A part is the first unbroken one whose origins name segment s: each in it does, none before it does, nor does the one after it; where it is empty, none does.
pub record First (s : ℕ) (os : List Origin) (part : Bounds) : Type 0 where
  pub names : (i : ℕ) (o : Origin) → Is os i o → In part i → segment_of o ≡ s
  pub before : (i : ℕ) (o : Origin) → Is os i o → i < part.start.0 → segment_of o ≡ s → ⊥
  pub after : 0 < part.count → (o : Origin) → Is os (part.start.0 + part.count) o → segment_of o ≡ s → ⊥
  pub none : part.count ≡ 0 → (i : ℕ) (o : Origin) → Is os i o → segment_of o ≡ s → ⊥

-- ---- after a done job

-- how many segments the source has
abbrev pub sources : Job → ℕ
sources j = segments_of j.closed (count j)

-- The flags and origins of the output's own segments: the first places of the job's buffers afterwards, as many as the drawing has segments. Those behind them are
-- no segments' and are not lent.
abbrev pub own_flags : Job → Drawing → List ℕ
own_flags j d = take (segment_count d) (outcome j).buffers.flags

abbrev pub own_origins : Job → Drawing → List Origin
own_origins j d = take (segment_count d) (outcome j).buffers.origins

-- the answer over these, of segment s
abbrev pub asked : Job → Drawing → ℕ → Result Bounds Refusal
asked j d s = part_answer (sources j) (length (own_flags j d)) (own_origins j d) s

pub record Claim (j : Job) (s : ℕ) : Type 0 where
  -- the drawing that the answer counts, with its flags and origins
  pub drawing : Drawing
  pub done : (outcome j).answer ≡ Ok (result_of drawing)
  pub flags : own_flags j drawing ≡ drawing.flags
  pub origins : own_origins j drawing ≡ drawing.origins
  -- each segment has both; the segments that they name never fall, and are the source's
  pub each-flag : length drawing.flags ≡ segment_count drawing
  pub each-origin : length drawing.origins ≡ segment_count drawing
  pub never_falls : NeverFalling 0 (map segment_of drawing.origins)
  pub below : (o : Origin) → Memᴰ o drawing.origins → segment_of o < sources j
  -- No. 13 where the source has no segment s; else a part is found
  pub none_such : sources j ≤ s → asked j drawing s ≡ Err NoSuchSourceSegment
  pub found : s < sources j → asked j drawing s ≡ Ok (part_of s drawing.origins)
  -- it is all that segment s became: the output segments that name s are those in the part, and so there is no other part
  pub all : (i : ℕ) (o : Origin) → Is drawing.origins i o → (segment_of o ≡ s) ↔ In (part_of s drawing.origins) i
  -- and it has no place past them
  pub within : (i : ℕ) → In (part_of s drawing.origins) i → i < segment_count drawing
  -- of a copy it is the one segment with the same number
  pub copied : T (eq j.settings.offset zero) → s < sources j → part_of s drawing.origins ≡ part_at s 1
