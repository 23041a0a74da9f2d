-- Numbers as they are lent, and the vertices that they make (01 §1; 02's 2026-08 for columns). Definitions only.
use Rattle.std.specs.Prelude.{◌≡◌, ℕ, ◌-◌, ◌%◌, List, [], ◌∷◌, ◌++◌, Bool, ltb, eqb, length, take, Float}
use Rattle.floats.specs.Choice.{when◌give◌else◌, ◌and◌}
use Rattle.segments.specs.declared.PlineVertex.{PlineVertex}

-- three numbers a vertex: x, y, bulge
unfoldable pub vertices_of : List Float → List PlineVertex
vertices_of [] = []
vertices_of (x ∷ []) = []
vertices_of (x ∷ y ∷ []) = []
vertices_of (x ∷ y ∷ b ∷ rest) = record { x = x; y = y; bulge = b } ∷ vertices_of rest

-- all x, all y and all bulges: the first of each is the first vertex, and the shortest says how many there are
unfoldable pub columns_of : List Float → List Float → List Float → List PlineVertex
columns_of [] ys bs = []
columns_of (x ∷ xs) [] bs = []
columns_of (x ∷ xs) (y ∷ ys) [] = []
columns_of (x ∷ xs) (y ∷ ys) (b ∷ bs) = record { x = x; y = y; bulge = b } ∷ columns_of xs ys bs

-- numbers as they are lent: in rows, one vertex after the other; or in three columns
pub data Lent : Type 0 where
  rows : List Float → Lent
  columns : List Float → List Float → List Float → Lent

abbrev pub vertices_in : Lent → List PlineVertex
vertices_in (rows ns) = vertices_of ns
vertices_in (columns xs ys bs) = columns_of xs ys bs

-- no number is left over: as a proposition, and as a test
abbrev pub Whole : Lent → Type 0
Whole (rows ns) = length ns % 3 ≡ 0
Whole (columns xs ys bs) = (length xs ≡ length ys) × (length ys ≡ length bs)

abbrev pub is_whole : Lent → Bool
is_whole (rows ns) = eqb (length ns % 3) 0
is_whole (columns xs ys bs) = eqb (length xs) (length ys) and eqb (length ys) (length bs)

-- how many segments v vertices have: v − 1 open, v closed, none where v < 2
unfoldable pub segments_of : Bool → ℕ → ℕ
segments_of closed v = when ltb v 2 give 0 else when closed give v else v - 1

-- the vertices in the order in which segments join them: a closed source comes back to its first
unfoldable pub around : Bool → List PlineVertex → List PlineVertex
around closed vs = when closed give vs ++ take 1 vs else vs
