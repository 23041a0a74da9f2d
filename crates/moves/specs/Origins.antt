-- An origin as a number in a lent buffer, and back (02's 2026-09). Definitions only.
use Rattle.std.specs.Prelude.{ℕ, ◌+◌, ◌*◌, ◌/◌, ◌%◌, List, map, eqb}
use Rattle.floats.specs.Choice.{when◌give◌else◌}
use Rattle.moves.specs.declared.Origin.{Origin}
use Rattle.moves.specs.declared.Origin.TheVariants.{Span, Connector}

-- twice its segment's number for a span, and one more for a connector
abbrev pub code_of : Origin → ℕ
code_of (Span i) = 2 * i.0
code_of (Connector i) = 2 * i.0 + 1

-- the origin that a number stands for: of zero the span of segment 0
unfoldable pub origin_of : ℕ → Origin
origin_of c = when eqb (c % 2) 0 give Span (record { 0 = c / 2 }) else Connector (record { 0 = c / 2 })

-- the origins in a lent buffer
unfoldable pub origins_in : List ℕ → List Origin
origins_in cs = map origin_of cs
