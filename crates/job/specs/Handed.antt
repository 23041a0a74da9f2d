-- What a caller in C is handed of a job. Definitions only.
use Rattle.std.specs.Prelude.{Result, ℕ, List, [], ◌∷◌}
use Rattle.moves.specs.Drawing.{bit}
use Rattle.sheet.specs.Buffers.{Buffers}
use Rattle.moves.specs.declared.RawOffsetResult.{RawOffsetResult}
use Rattle.refusals.specs.declared.Refusal.{Refusal}
use Rattle.job.specs.Job.{Outcome, result_in}
use Rattle.refusals.specs.Table.{number, place}

-- the number returned, the five numbers of `answer`, and what the buffers hold
pub record Handed : Type 0 where
  pub returned : ℕ
  pub answer : List ℕ
  pub buffers : Buffers

abbrev pub handed : ℕ → List ℕ → Buffers → Handed
handed n five b = record { returned = n; answer = five; buffers = b }

-- number, place, count of vertices, count of indexes, and 1 where the drawing is closed
unfoldable pub five_of : Result RawOffsetResult Refusal → List ℕ
five_of a = number a ∷ place a ∷ (result_in a).vertices ∷ (result_in a).indexes ∷ bit (result_in a).closed ∷ []

unfoldable pub handed_of : Outcome → Handed
handed_of o = handed (number o.answer) (five_of o.answer) o.buffers
