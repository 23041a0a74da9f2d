-- What a caller in C is handed of two outputs (02's 2026-03). Definitions only.
use Rattle.std.specs.Prelude.{ℕ, List, [], ◌∷◌}
use Rattle.refusals.specs.Table.{number, place}
use Rattle.compare.specs.Compare.{Outcome, differences_of, marks_number}

-- the number returned, the five numbers of `answer`, and the two lent buffers
pub record Handed : Type 0 where
  pub returned : ℕ
  pub answer : List ℕ
  pub numbers : List ℕ
  pub fields : List ℕ

abbrev pub handed : ℕ → List ℕ → List ℕ → List ℕ → Handed
handed n five numbers fields = record { returned = n; answer = five; numbers = numbers; fields = fields }

-- number, place, how many vertices are listed, how many only one output has, and whether the closed marks differ
unfoldable pub handed_of : Outcome → Handed
handed_of o =
    let d = differences_of o.answer in
    handed (number o.answer) (number o.answer ∷ place o.answer ∷ d.listed ∷ d.unmatched ∷ marks_number d ∷ []) o.numbers o.fields
