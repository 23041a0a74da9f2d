-- What a caller in C is handed of a call. Definitions only.
use Rattle.std.specs.Prelude.{ℕ, List, [], ◌∷◌}
use Rattle.sheet.specs.Buffers.{Buffers}
use Rattle.pieces.specs.declared.OpenJob.{OpenJob}
use Rattle.pieces.specs.declared.DrawAnswer.{DrawAnswer}
use Rattle.pieces.specs.Calls.{Started, Called}

-- number, place, count of vertices, count of indexes, count of segments
unfoldable pub five_of : DrawAnswer → List ℕ
five_of a = a.number ∷ a.place ∷ a.vertices ∷ a.indexes ∷ a.segments ∷ []

-- the number returned, the record, and the five numbers of `answer`
pub record HandedStart : Type 0 where
  pub returned : ℕ
  pub job : OpenJob
  pub answer : List ℕ

abbrev pub handed_start : ℕ → OpenJob → List ℕ → HandedStart
handed_start n j five = record { returned = n; job = j; answer = five }

unfoldable pub start_handed : Started → HandedStart
start_handed s = handed_start s.answer.number s.job (five_of s.answer)

-- and what the buffers hold
pub record HandedCall : Type 0 where
  pub returned : ℕ
  pub job : OpenJob
  pub answer : List ℕ
  pub buffers : Buffers

abbrev pub handed_call : ℕ → OpenJob → List ℕ → Buffers → HandedCall
handed_call n j five b = record { returned = n; job = j; answer = five; buffers = b }

unfoldable pub call_handed : Called → HandedCall
call_handed c = handed_call c.answer.number c.job (five_of c.answer) c.buffers
