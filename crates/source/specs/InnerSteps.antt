-- What is read of vertices at a place, and how many lent numbers make, told by the lengths of the lists alone. No rule rests on these: laws tie them to the vertices that
-- lent numbers make. Definitions only.
use Rattle.std.specs.Prelude.{ℕ, ◌+◌, ◌/◌, ◌%◌, List, Bool, true, false, ltb, eqb, get_or, min, Float}
use Rattle.std.specs.Float.{nan}
use Rattle.floats.specs.Choice.{when◌give◌else◌, ◌and◌}
use Rattle.segments.specs.declared.PlineVertex.{PlineVertex}
use Rattle.source.specs.Source.{Lent, rows, columns}

-- three lists as they are lent, in columns or not: in rows the first has all the numbers
abbrev pub lent_by : Bool → List Float → List Float → List Float → Lent
lent_by true xs ys bs = columns xs ys bs
lent_by false xs ys bs = rows xs

-- how many vertices lists of so many numbers make
abbrev pub count_by : Bool → ℕ → ℕ → ℕ → ℕ
count_by true x y b = min (min x y) b
count_by false x y b = x / 3

-- whether none of so many numbers is left over
abbrev pub whole_by : Bool → ℕ → ℕ → ℕ → Bool
whole_by true x y b = eqb x y and eqb y b
whole_by false x y b = eqb (x % 3) 0

-- the vertex at place k
unfoldable pub vertex_of : List PlineVertex → ℕ → PlineVertex
vertex_of vs k = get_or vs k (record { x = nan; y = nan; bulge = nan })

-- the place that segment k leads to, of v: after the last comes the first
unfoldable pub next_of : ℕ → ℕ → ℕ
next_of v k = when ltb (k + 1) v give k + 1 else 0
