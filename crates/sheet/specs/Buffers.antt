-- The four lent buffers, the vertices in rows or in three columns, and what a drawing leaves in them (01 §1; 02's 2026-09 for origins, 2026-08 for columns). Definitions only.
use Rattle.std.specs.Prelude.{ℕ, ◌*◌, ◌-◌, List, [], ◌∷◌, ◌++◌, map, length, drop, replicate, Float}
use Rattle.floats.specs.Binary64.{zero}
use Rattle.segments.specs.declared.PlineVertex.{PlineVertex}
use Rattle.source.specs.Source.{Lent, rows, columns}
use Rattle.moves.specs.declared.Origin.{Origin}
use Rattle.moves.specs.declared.Origin.TheVariants.{Span}
use Rattle.moves.specs.Drawing.{Drawing}

-- the contents of the four, at entry or at exit; origins are those that the numbers in their buffer stand for (`origins_in`)
pub record Buffers : Type 0 where
  pub vertices : Lent
  pub flags : List ℕ
  pub indexes : List ℕ
  pub origins : List Origin

abbrev pub buffers : Lent → List ℕ → List ℕ → List Origin → Buffers
buffers v f i o = record { vertices = v; flags = f; indexes = i; origins = o }

-- vertices laid flat, three numbers each: x, y, bulge
unfoldable pub flat : List PlineVertex → List Float
flat [] = []
flat (v ∷ vs) = v.x ∷ v.y ∷ v.bulge ∷ flat vs

-- the x, the y and the bulge of each
abbrev pub xs_of : List PlineVertex → List Float
xs_of vs = map (λ (v : PlineVertex). v.x) vs

abbrev pub ys_of : List PlineVertex → List Float
ys_of vs = map (λ (v : PlineVertex). v.y) vs

abbrev pub bulges_of : List PlineVertex → List Float
bulges_of vs = map (λ (v : PlineVertex). v.bulge) vs

-- xs, then z up to place n, then what stood there before
abbrev pub padded {ℓ} : {A : Type ℓ} → A → ℕ → List A → List A → List A
padded z n xs old = xs ++ replicate (n - length xs) z ++ drop n old

-- the origin of an unused place, where others hold zero
abbrev pub no_origin : Origin
no_origin = Span (record { 0 = 0 })

-- vertices in the first `room` places: in rows all in the one list, in columns each number in its own
abbrev pub laid_in : ℕ → List PlineVertex → Lent → Lent
laid_in room vs (rows ns) = rows (padded zero (3 * room) (flat vs) ns)
laid_in room vs (columns xs ys bs) = columns (padded zero room (xs_of vs) xs) (padded zero room (ys_of vs) ys) (padded zero room (bulges_of vs) bs)

-- A drawing in the first `room` places of each buffer: unused places among them are zero, and places past them stay.
unfoldable pub shown : ℕ → Drawing → Buffers → Buffers
shown room d old = record {
  vertices = laid_in room d.vertices old.vertices;
  flags = padded 0 room d.flags old.flags;
  indexes = padded 0 room d.indexes old.indexes;
  origins = padded no_origin room d.origins old.origins;
}
