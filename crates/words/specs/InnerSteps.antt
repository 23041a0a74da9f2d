-- A vector in a row of stored samples. No rule rests on it. Definitions only.
use Rattle.std.specs.Prelude.{ℕ, ◌+◌, List}
use Rattle.vectors.specs.declared.Vector2.{Vector2}
use Rattle.words.specs.Words.{number_at}

-- x at place i, and y after it
unfoldable pub vector_at : List ℕ → ℕ → Vector2
vector_at bytes i = record { x = number_at bytes i; y = number_at bytes (i + 8) }
