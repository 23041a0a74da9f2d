-- Parts of settled rows of origins, by computation of the definitions: a whole part, one of a connector alone, a segment that became nothing, broken runs, both refusals
-- and their order, numbers from 2³¹ on, and the padding behind an output's own segments. Assumes nothing.
use mathlib.Core.Path.{◌≡◌, refl}
use mathlib.Core.List.{List, [], ◌∷◌, map}
use Prim.Native.Nat.{ℕ}
use Rattle.std.specs.Prelude.{Result, Ok, Err}
use Rattle.floats.specs.Choice.{when◌give◌else◌}
use Rattle.refusals.specs.declared.Refusal.{Refusal}
use Rattle.refusals.specs.declared.Refusal.TheVariants.{Ragged, NoSuchSourceSegment}
use Rattle.moves.specs.Origins.{origin_of, origins_in}
use Rattle.part.specs.declared.Bounds.{Bounds}
use Rattle.part.specs.Part.{naming, front, part_at, empty, part_of, part_answer}

unfoldable sought : Unit {0}
unfolding when◌give◌else◌ origin_of origins_in naming front part_of part_answer
sought = tt

-- a question over origins by their numbers, and its answer
pub record Row : Type 0 where
  pub n : ℕ
  pub flags : ℕ
  pub codes : List ℕ
  pub source : ℕ
  pub answer : Result Bounds Refusal

abbrev pub answer_of : Row → Result Bounds Refusal
answer_of r = part_answer r.n r.flags (origins_in r.codes) r.source

abbrev pub row : ℕ → ℕ → List ℕ → ℕ → Result Bounds Refusal → Row
row n flags codes source answer = record { n = n; flags = flags; codes = codes; source = source; answer = answer }

-- span 0 and its connector, span 1, the connector of segment 3
abbrev pub four : List ℕ
four = 0 ∷ 1 ∷ 2 ∷ 7 ∷ []

-- segments 1, 0, 0, 2, 0 and 1
abbrev pub broken : List ℕ
broken = 2 ∷ 0 ∷ 1 ∷ 4 ∷ 0 ∷ 3 ∷ []

-- the two largest numbers: of segment 2³¹ − 1
abbrev pub high : List ℕ
high = 0 ∷ 0xffff_fffe ∷ 0xffff_ffff ∷ []

-- spans 1 and 2, and behind them two places of padding
abbrev pub own : List ℕ
own = 2 ∷ 4 ∷ []

abbrev pub padded : List ℕ
padded = 2 ∷ 4 ∷ 0 ∷ 0 ∷ []

abbrev pub rows : List Row
rows =
    row 4 4 four 0 (Ok (part_at 0 2))
    ∷ row 4 4 four 3 (Ok (part_at 3 1))
    ∷ row 4 4 four 2 (Ok empty)
    ∷ row 3 6 broken 0 (Ok (part_at 1 2))
    ∷ row 3 6 broken 1 (Ok (part_at 0 1))
    ∷ row 4 3 four 0 (Err Ragged)
    ∷ row 4 3 four 4 (Err Ragged)
    ∷ row 4 4 four 4 (Err NoSuchSourceSegment)
    ∷ row 0 0 [] 0 (Err NoSuchSourceSegment)
    ∷ row 1 0 [] 0 (Ok empty)
    ∷ row 0xffff_ffff 3 high 0x7fff_ffff (Ok (part_at 1 2))
    ∷ row 0xffff_ffff 3 high 0x8000_0000 (Ok empty)
    ∷ row 0xffff_ffff 3 high 0xffff_fffe (Ok empty)
    ∷ row 0xffff_ffff 3 high 0xffff_ffff (Err NoSuchSourceSegment)
    ∷ row 3 2 own 0 (Ok empty)
    ∷ row 3 4 padded 0 (Ok (part_at 2 2))
    ∷ []

pub settled : map answer_of rows ≡ map (λ (r : Row). r.answer) rows
unfolding sought
settled = refl
