-- The rows of 01 §1's table as propositions over the source and the buffers, each with the rows before it excluded. No search and no test of the code stands in them.
-- Definitions only.
use Rattle.std.specs.Prelude.{◌≡◌, Bool, ℕ, ◌*◌, ◌≤◌, ◌<◌, T, length, Float}
use mathlib.Core.List.{Memᴰ}
use Rattle.std.specs.Float.{nan, inf}
use Rattle.std.specs.Float.Ieee.{eq}
use Rattle.floats.specs.Binary64.{zero}
use Rattle.segments.specs.declared.Settings.{Settings}
use Rattle.source.specs.Source.{Lent, vertices_in, Whole, segments_of}
use Rattle.refusals.specs.Rows.{NumberRow, RepeatedRow}
use Rattle.sheet.specs.Buffers.{Buffers, flat}
use Rattle.walk.specs.Walk.{moves_a_segment, drawing_of}
use Rattle.job.specs.Job.{Outcome, job_of}
use Rattle.refusals.specs.Table.{number, place}

-- what comes into a job
pub record Job : Type 0 where
  pub source : Lent
  pub closed : Bool
  pub settings : Settings
  pub buffers : Buffers

abbrev pub outcome : Job → Outcome
outcome j = job_of j.source j.closed j.settings j.buffers

-- how many vertices there are, and how many fit
abbrev pub count : Job → ℕ
count j = length (vertices_in j.source)

abbrev pub fit : Job → ℕ
fit j = length (vertices_in j.buffers.vertices)

-- 2n, or 3n in the pointed mode
abbrev pub places : Job → ℕ
places j = moves_a_segment j.settings.corners * segments_of j.closed (count j)

-- refusal n is given, at place k
pub record Given (j : Job) (n k : ℕ) : Type 0 where
  pub number : number (outcome j).answer ≡ n
  pub place : place (outcome j).answer ≡ k

-- ---- what each refusal needs to have passed

-- Nos. 1 and 2
pub record Countable (j : Job) : Type 0 where
  pub whole : Whole j.source
  pub few : count j ≤ 4096

-- and No. 3
pub record Numbers (j : Job) : Type 0 where
  pub countable : Countable j
  pub good : (k : ℕ) → NumberRow (vertices_in j.source) j.settings k → ⊥

-- and No. 4, of two vertices or more
pub record Roomy (j : Job) : Type 0 where
  pub numbers : Numbers j
  pub two : 2 ≤ count j
  pub vertices : places j ≤ fit j
  pub flags : places j ≤ length j.buffers.flags
  pub indexes : places j ≤ length j.buffers.indexes
  pub origins : places j ≤ length j.buffers.origins

-- and the zero offset, and No. 5
pub record Distinct (j : Job) : Type 0 where
  pub roomy : Roomy j
  pub nonzero : T (eq j.settings.offset zero) → ⊥
  pub distinct : (k : ℕ) → RepeatedRow (vertices_in j.source) j.closed k → ⊥

-- ---- the rows

abbrev pub Row1 : Job → Type 0
Row1 j = Whole j.source → ⊥

pub record Row2 (j : Job) : Type 0 where
  pub whole : Whole j.source
  pub many : 4096 < count j

pub record Row3 (j : Job) (k : ℕ) : Type 0 where
  pub countable : Countable j
  pub bad : NumberRow (vertices_in j.source) j.settings k

-- fewer than so many vertices, flags, indexes or origins fit
pub data Short (j : Job) : Type 0 where
  vertices : fit j < places j → Short j
  flags : length j.buffers.flags < places j → Short j
  indexes : length j.buffers.indexes < places j → Short j
  origins : length j.buffers.origins < places j → Short j

pub record Row4 (j : Job) : Type 0 where
  pub numbers : Numbers j
  pub two : 2 ≤ count j
  pub short : Short j

pub record Row5 (j : Job) (k : ℕ) : Type 0 where
  pub roomy : Roomy j
  pub nonzero : T (eq j.settings.offset zero) → ⊥
  pub repeated : RepeatedRow (vertices_in j.source) j.closed k

-- a NaN or an infinity
pub data Endless (x : Float) : Type 0 where
  not-a-number : x ≡ nan → Endless x
  infinite : (s : Bool) → x ≡ inf s → Endless x

-- the built output holds one
pub record Row6 (j : Job) : Type 0 where
  pub distinct : Distinct j
  pub x : Float
  pub held : Memᴰ x (flat (drawing_of j.closed j.settings (vertices_in j.source)).vertices)
  pub endless : Endless x
