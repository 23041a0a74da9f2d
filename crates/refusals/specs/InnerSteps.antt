-- What a test without early end shows of a source. No rule rests on these. Definitions only.
use Rattle.std.specs.Prelude.{◌≡◌, true, false, ℕ, ◌+◌, ◌<◌, List}
use Rattle.segments.specs.declared.PlineVertex.{PlineVertex}
use Rattle.source.specs.InnerSteps.{vertex_of}
use Rattle.refusals.specs.Limits.{good_vertex, repeats}

-- the vertices before place n are good
abbrev pub GoodBefore : List PlineVertex → ℕ → Type 0
GoodBefore vs n = (k : ℕ) → k < n → good_vertex (vertex_of vs k) ≡ true

-- none of the n first pairs of neighbours repeats
abbrev pub ApartBefore : List PlineVertex → ℕ → Type 0
ApartBefore vs n = (k : ℕ) → k < n → repeats (vertex_of vs k) (vertex_of vs (k + 1)) ≡ false
