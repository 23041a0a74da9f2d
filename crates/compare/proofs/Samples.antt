-- Settled pairs of outputs, by computation of the definitions: equal ones, zeros and a NaN, each of the four fields, flags as bytes, a vertex that no segment leaves, vertices that only one has, the marks,
-- each way of being ragged, the order of refusals, and room. Assumes nothing.
use mathlib.Core.Path.{◌≡◌, refl}
use mathlib.Core.List.{List, [], ◌∷◌, map}
use mathlib.Core.Bool.{Bool, true, false}
use Prim.Native.Nat.{ℕ}
use lib.Ieee.{Float, binary64, of_bits, to_bits, nan}
use Rattle.std.specs.Prelude.{Ok, Err}
use Rattle.floats.specs.Choice.{when◌give◌else◌, ◌and◌, ◌or◌}
use Rattle.floats.specs.Binary64.{zero, one, two}
use Rattle.source.specs.Source.{vertices_of, segments_of}
use Rattle.refusals.specs.declared.Refusal.{Refusal}
use Rattle.refusals.specs.declared.Refusal.TheVariants.{Ragged, NoRoom}
use Rattle.compare.specs.Compare.{Output, output, differ, fields_at, any_of, entries_for, entries_to, shared, unmatched, list_of, marks_differ, is_even, is_many, has_room, code_of, Outcome, outcome, listing, compare_of}

unfoldable laid : Unit {0}
unfolding when◌give◌else◌ ◌and◌ ◌or◌ to_bits of_bits vertices_of segments_of differ fields_at any_of entries_for entries_to shared unmatched list_of marks_differ is_even is_many has_room code_of listing compare_of
laid = tt

-- two outputs, buffers of three places, and what becomes of them
pub record Row : Type 0 where
  pub first : Output
  pub second : Output
  pub numbers : List ℕ
  pub fields : List ℕ
  pub outcome : Outcome

abbrev pub outcome_of : Row → Outcome
outcome_of r = compare_of r.first r.second r.numbers r.fields

abbrev pub three : List ℕ
three = 90 ∷ 91 ∷ 92 ∷ []

abbrev pub row : Output → Output → Outcome → Row
row a b o = record { first = a; second = b; numbers = three; fields = three; outcome = o }

-- with room for so much
abbrev pub tight : Output → Output → List ℕ → List ℕ → Outcome → Row
tight a b ns fs o = record { first = a; second = b; numbers = ns; fields = fs; outcome = o }

-- so many listed, so many of one alone, and whether the marks differ; and the buffers
abbrev pub found : ℕ → ℕ → Bool → List ℕ → List ℕ → Outcome
found n u m ns fs = outcome (Ok (record { listed = n; unmatched = u; marks = m })) ns fs

abbrev pub refused : Refusal → Outcome
refused r = outcome (Err r) three three

abbrev pub minus_zero : Float
minus_zero = of_bits binary64 0x8000_0000_0000_0000

-- (0, 0) (1, 2, bulge 1), open, with a flag; and what it is changed to
abbrev pub line : Float → Float → Float → Float → Float → Float → ℕ → Output
line x y b u w c flag = output (x ∷ y ∷ b ∷ u ∷ w ∷ c ∷ []) false (flag ∷ [])

abbrev pub plain : Output
plain = line zero zero zero one two one 0

-- the same vertices closed, with two flags
abbrev pub ring : ℕ → ℕ → Output
ring f g = output (zero ∷ zero ∷ zero ∷ one ∷ two ∷ one ∷ []) true (f ∷ g ∷ [])

abbrev pub none : Bool → Output
none closed = output [] closed []

abbrev pub lone : Bool → List ℕ → Output
lone closed flags = output (zero ∷ zero ∷ zero ∷ []) closed flags

-- a number left over, a flag too few and one too many
abbrev pub left : Output
left = output (zero ∷ zero ∷ zero ∷ one ∷ []) false []

abbrev pub bare : Output
bare = output (zero ∷ zero ∷ zero ∷ one ∷ two ∷ one ∷ []) false []

abbrev pub rows : List Row
rows =
    row plain plain (found 0 0 false three three)
    ∷ row plain (line minus_zero zero zero one two one 0) (found 1 0 false (0 ∷ 91 ∷ 92 ∷ []) (1 ∷ 91 ∷ 92 ∷ []))
    ∷ row plain (line zero minus_zero zero one two one 0) (found 1 0 false (0 ∷ 91 ∷ 92 ∷ []) (2 ∷ 91 ∷ 92 ∷ []))
    ∷ row plain (line zero zero one one two one 0) (found 1 0 false (0 ∷ 91 ∷ 92 ∷ []) (4 ∷ 91 ∷ 92 ∷ []))
    ∷ row plain (line zero zero zero one two one 1) (found 1 0 false (0 ∷ 91 ∷ 92 ∷ []) (8 ∷ 91 ∷ 92 ∷ []))
    ∷ row plain (line one one one one two two 3) (found 2 0 false (0 ∷ 1 ∷ 92 ∷ []) (15 ∷ 4 ∷ 92 ∷ []))
    ∷ row (line zero zero zero nan two one 0) (line zero zero zero nan two one 0) (found 0 0 false three three)
    ∷ row (line zero zero zero nan two one 0) plain (found 1 0 false (1 ∷ 91 ∷ 92 ∷ []) (1 ∷ 91 ∷ 92 ∷ []))
    ∷ row (line zero zero zero one two one 1) (line zero zero zero one two one 2) (found 1 0 false (0 ∷ 91 ∷ 92 ∷ []) (8 ∷ 91 ∷ 92 ∷ []))
    ∷ row (ring 0 1) plain (found 1 0 true (1 ∷ 91 ∷ 92 ∷ []) (8 ∷ 91 ∷ 92 ∷ []))
    ∷ row (ring 0 0) plain (found 0 0 true three three)
    ∷ row plain (lone false []) (found 0 1 false three three)
    ∷ row (line zero zero zero one two one 1) (lone false []) (found 1 1 false (0 ∷ 91 ∷ 92 ∷ []) (8 ∷ 91 ∷ 92 ∷ []))
    ∷ row (none true) plain (found 0 2 true three three)
    ∷ row (none true) (none true) (found 0 0 false three three)
    ∷ row (none false) (none true) (found 0 0 true three three)
    ∷ row (lone true []) (lone true []) (found 0 0 false three three)
    ∷ row left plain (refused Ragged)
    ∷ row plain left (refused Ragged)
    ∷ row bare plain (refused Ragged)
    ∷ row (ring 0 0) (lone true (0 ∷ [])) (refused Ragged)
    ∷ tight plain plain [] [] (found 0 0 false [] [])
    ∷ tight plain (ring 1 1) (90 ∷ 91 ∷ []) (90 ∷ 91 ∷ []) (found 2 0 true (0 ∷ 1 ∷ []) (8 ∷ 8 ∷ []))
    ∷ tight plain (ring 1 1) (90 ∷ []) three (outcome (Err NoRoom) (90 ∷ []) three)
    ∷ tight plain (ring 1 1) three (90 ∷ []) (outcome (Err NoRoom) three (90 ∷ []))
    ∷ []

pub settled : map outcome_of rows ≡ map (λ (r : Row). r.outcome) rows
unfolding laid
settled = refl
