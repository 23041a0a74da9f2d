-- What a caller in C is told of a source segment. Definitions only.
use Rattle.std.specs.Prelude.{ℕ, List, [], ◌∷◌, Result}
use Rattle.refusals.specs.declared.Refusal.{Refusal}
use Rattle.refusals.specs.Table.{number, place}
use Rattle.part.specs.declared.Bounds.{Bounds}
use Rattle.part.specs.Part.{bounds_of}

-- the number returned, and the four numbers of `answer`
pub record Handed : Type 0 where
  pub returned : ℕ
  pub answer : List ℕ

abbrev pub handed : ℕ → List ℕ → Handed
handed n four = record { returned = n; answer = four }

-- number, place, the part's first output segment, and how many it has
unfoldable pub handed_of : Result Bounds Refusal → Handed
handed_of a = handed (number a) (number a ∷ place a ∷ (bounds_of a).start.0 ∷ (bounds_of a).count ∷ [])
