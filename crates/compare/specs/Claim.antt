-- What 02's 2026-03 promises, read off the answer and the buffers of a call: of one that is done `Claim`, and which answer is given exactly when, `Answers` (shown of every call in `proofs/Claim.antt` and
-- `proofs/Given.antt`). Definitions only.
use Rattle.std.specs.Prelude.{◌≡◌, ◌↔◌, ◌⊎◌, true, false, ℕ, ◌+◌, ◌-◌, ◌%◌, ◌≤◌, ◌<◌, T, length, take, drop, get_or, Float}
use mathlib.Core.List.{List, map, Memᴰ}
use Rattle.std.specs.Float.{binary64, nan}
use Rattle.std.specs.Float.Ieee.{to_bits, fits}
use Rattle.source.specs.Source.{segments_of}
use Rattle.refusals.specs.Table.{number, place}
use Rattle.moves.specs.Choice.{Rising}
use Rattle.compare.specs.declared.Fields.{Fields}
use Rattle.compare.specs.declared.Differences.{Differences}
use Rattle.compare.specs.Compare.{Output, points_of, vertex_at, flag_at, Entry, list_of, number_in, code_in, code_of, Outcome, none, differences_of}

-- each number of a list is a double, as in every list that is lent; past its end stands a NaN, which is one
abbrev pub Doubles : List Float → Type 0
Doubles ns = (i : ℕ) → T (fits binary64 (get_or ns i nan))

-- two doubles differ in their bits
abbrev pub Differ : Float → Float → Type 0
Differ x y = to_bits binary64 x ≡ to_bits binary64 y → ⊥

-- vertex k is one that both outputs have, f says exactly which of the four differ there, and one at least does
pub record Differing (a b : Output) (k : ℕ) (f : Fields) : Type 0 where
  pub in_first : k < length (points_of a)
  pub in_second : k < length (points_of b)
  pub x : (f.x ≡ true) ↔ Differ (vertex_at (points_of a) k).x (vertex_at (points_of b) k).x
  pub y : (f.y ≡ true) ↔ Differ (vertex_at (points_of a) k).y (vertex_at (points_of b) k).y
  pub bulge : (f.bulge ≡ true) ↔ Differ (vertex_at (points_of a) k).bulge (vertex_at (points_of b) k).bulge
  pub flag : (f.flag ≡ true) ↔ (flag_at a.flags k ≡ flag_at b.flags k → ⊥)
  pub some : (f.x ≡ true) ⊎ (f.y ≡ true) ⊎ (f.bulge ≡ true) ⊎ (f.flag ≡ true)

-- two outputs are equal: vertices, flags and marks
pub record Same (a b : Output) : Type 0 where
  pub vertices : points_of a ≡ points_of b
  pub flags : a.flags ≡ b.flags
  pub closed : a.closed ≡ b.closed

-- nothing is told to differ: no vertex is listed, none is only one output's, and the marks agree
pub record Nothing (d : Differences) : Type 0 where
  pub listed : d.listed ≡ 0
  pub unmatched : d.unmatched ≡ 0
  pub marks : d.marks ≡ false

abbrev pub told : Outcome → Differences
told o = differences_of o.answer

-- of a call with these two outputs and buffers, and what it leaves
pub record Claim (a b : Output) (numbers fields : List ℕ) (o : Outcome) : Type 0 where
  -- the list stands at the start of both buffers: a vertex number in the one, what differs in the other
  pub list : List Entry
  pub counted : length list ≡ (told o).listed
  pub in_numbers : take (told o).listed o.numbers ≡ map number_in list
  pub in_fields : take (told o).listed o.fields ≡ map code_in list
  -- what differs can be read off its number
  pub readable : (f g : Fields) → code_of f ≡ code_of g → f ≡ g
  -- the places past it are as they were
  pub past-numbers : drop (told o).listed o.numbers ≡ drop (told o).listed numbers
  pub past-fields : drop (told o).listed o.fields ≡ drop (told o).listed fields
  -- it is exactly the vertices that differ, each with exactly what differs there, in rising order
  pub exactly : (k : ℕ) (f : Fields) → Memᴰ (record { number = k; fields = f }) list ↔ Differing a b k f
  pub rising : Rising 0 (map number_in list)
  -- how many vertices only one has, and whether the marks differ
  pub unmatched : (told o).unmatched ≡ (length (points_of a) - length (points_of b)) + (length (points_of b) - length (points_of a))
  pub marks : ((told o).marks ≡ true) ↔ (a.closed ≡ b.closed → ⊥)
  -- nothing is told to differ if and only if the outputs are equal
  pub equal : Nothing (told o) ↔ Same a b

-- ---- which answer is given exactly when

-- no number of an output is left over, and there is a flag for each segment
pub record Even (o : Output) : Type 0 where
  pub whole : length o.numbers % 3 ≡ 0
  pub flags : length o.flags ≡ segments_of o.closed (length (points_of o))

-- it has more than 12,288 vertices; and an output that can be compared
abbrev pub Many : Output → Type 0
Many o = 12288 < length (points_of o)

pub record Fine (o : Output) : Type 0 where
  pub even : Even o
  pub few : length (points_of o) ≤ 12288

-- the list fits both buffers
pub record Roomy (a b : Output) (numbers fields : List ℕ) : Type 0 where
  pub for_numbers : length (list_of a b) ≤ length numbers
  pub for_fields : length (list_of a b) ≤ length fields

abbrev pub number_is : Outcome → ℕ → Type 0
number_is o n = number o.answer ≡ n

-- 02's refusals in their order: of the first output, then of the second, then room; a refusal has place 0, tells of nothing that differs, and leaves both buffers as they were
pub record Answers (a b : Output) (numbers fields : List ℕ) (o : Outcome) : Type 0 where
  pub ragged : number_is o 1 ↔ ((Even a → ⊥) ⊎ (Fine a × (Even b → ⊥)))
  pub many : number_is o 2 ↔ ((Even a × Many a) ⊎ (Fine a × Even b × Many b))
  pub room : number_is o 4 ↔ (Fine a × Fine b × (Roomy a b numbers fields → ⊥))
  pub done : number_is o 0 ↔ (Fine a × Fine b × Roomy a b numbers fields)
  pub place : place o.answer ≡ 0
  pub refused : (number_is o 0 → ⊥) → (told o ≡ none) × (o.numbers ≡ numbers) × (o.fields ≡ fields)
