-- One law for both layouts (02's 2026-08): when two jobs are the same but for how their numbers are lent, and what their outcomes have in common then. `proofs/Layouts.antt`
-- shows it of all such jobs, and that each job has one of these in the other layout. Definitions only.
use Rattle.std.specs.Prelude.{◌≡◌, ◌↔◌, List, [], ◌∷◌, ◌*◌, length, drop, Float}
use Rattle.source.specs.Source.{vertices_of, columns_of, Lent, rows, columns, vertices_in, Whole}
use Rattle.sheet.specs.Buffers.{Buffers}
use Rattle.job.specs.Rows.{Job, outcome}

-- ---- the same job

-- two sources make the same vertices, and none has a number left over, or both have
pub record SameSource (s t : Lent) : Type 0 where
  pub vertices : vertices_in s ≡ vertices_in t
  pub whole : Whole s ↔ Whole t

-- buffers that hold the same vertices, as many as fit, and the same flags, indexes and origins
pub record SameBuffers (a b : Buffers) : Type 0 where
  pub vertices : vertices_in a.vertices ≡ vertices_in b.vertices
  pub flags : a.flags ≡ b.flags
  pub indexes : a.indexes ≡ b.indexes
  pub origins : a.origins ≡ b.origins

pub record SameJob (j k : Job) : Type 0 where
  pub source : SameSource j.source k.source
  pub closed : j.closed ≡ k.closed
  pub settings : j.settings ≡ k.settings
  pub buffers : SameBuffers j.buffers k.buffers

-- ---- what the outcomes have in common

-- the numbers that make no vertex: in rows those left over at the end, in columns those past the shortest
abbrev pub beyond : Lent → Lent
beyond (rows ns) = rows (drop (3 * length (vertices_of ns)) ns)
beyond (columns xs ys bs) = let n = length (columns_of xs ys bs) in columns (drop n xs) (drop n ys) (drop n bs)

pub record Carried (j k : Job) : Type 0 where
  -- the answer: number and place of a refusal, counts and closed mark
  pub answer : (outcome j).answer ≡ (outcome k).answer
  -- every place of the buffers, written or left
  pub buffers : SameBuffers (outcome j).buffers (outcome k).buffers
  -- and no number past them is touched
  pub first : beyond (outcome j).buffers.vertices ≡ beyond j.buffers.vertices
  pub second : beyond (outcome k).buffers.vertices ≡ beyond k.buffers.vertices

-- ---- from either layout to the other

-- every third number, from the first, the second and the third on
unfoldable pub firsts_of : List Float → List Float
firsts_of [] = []
firsts_of (x ∷ []) = x ∷ []
firsts_of (x ∷ y ∷ []) = x ∷ []
firsts_of (x ∷ y ∷ b ∷ rest) = x ∷ firsts_of rest

unfoldable pub seconds_of : List Float → List Float
seconds_of [] = []
seconds_of (x ∷ []) = []
seconds_of (x ∷ y ∷ []) = y ∷ []
seconds_of (x ∷ y ∷ b ∷ rest) = y ∷ seconds_of rest

unfoldable pub thirds_of : List Float → List Float
thirds_of [] = []
thirds_of (x ∷ []) = []
thirds_of (x ∷ y ∷ []) = []
thirds_of (x ∷ y ∷ b ∷ rest) = b ∷ thirds_of rest

-- one number of each column in turn; where one column is at its end and another is not, one number more
unfoldable pub interleaved : List Float → List Float → List Float → List Float
interleaved [] [] [] = []
interleaved [] [] (b ∷ bs) = b ∷ []
interleaved [] (y ∷ ys) bs = y ∷ []
interleaved (x ∷ xs) [] bs = x ∷ []
interleaved (x ∷ xs) (y ∷ ys) [] = x ∷ []
interleaved (x ∷ xs) (y ∷ ys) (b ∷ bs) = x ∷ y ∷ b ∷ interleaved xs ys bs

abbrev pub other : Lent → Lent
other (rows ns) = columns (firsts_of ns) (seconds_of ns) (thirds_of ns)
other (columns xs ys bs) = rows (interleaved xs ys bs)

abbrev pub other_job : Job → Job
other_job j = record {
  source = other j.source;
  closed = j.closed;
  settings = j.settings;
  buffers = record { vertices = other j.buffers.vertices; flags = j.buffers.flags; indexes = j.buffers.indexes; origins = j.buffers.origins };
}
