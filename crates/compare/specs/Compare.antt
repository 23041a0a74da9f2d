-- Two outputs side by side (02's 2026-03): what is compared, which vertices are listed and with what, and the refusals. Definitions only.
use Rattle.std.specs.Prelude.{ℕ, zero, suc, ◌+◌, ◌-◌, List, [], ◌∷◌, ◌++◌, map, Bool, false, not, eqb, ltb, leb, length, drop, get_or, min, Float, Result, Ok, Err}
use Rattle.std.specs.Float.{binary64, nan}
use Rattle.std.specs.Float.Ieee.{to_bits}
use Rattle.std.specs.Result.{result_unwrap_or}
use Rattle.floats.specs.Choice.{when◌give◌else◌, ◌and◌, ◌or◌}
use Rattle.segments.specs.declared.PlineVertex.{PlineVertex}
use Rattle.source.specs.Source.{rows, is_whole, vertices_of, segments_of}
use Rattle.refusals.specs.declared.Refusal.{Refusal}
use Rattle.refusals.specs.declared.Refusal.TheVariants.{Ragged, TooMany, NoRoom}
use Rattle.compare.specs.declared.Fields.{Fields}
use Rattle.compare.specs.declared.Differences.{Differences}

-- an output as it is lent: three numbers a vertex, the closed mark, and the flags
pub record Output : Type 0 where
  pub numbers : List Float
  pub closed : Bool
  pub flags : List ℕ

abbrev pub output : List Float → Bool → List ℕ → Output
output ns c fs = record { numbers = ns; closed = c; flags = fs }

abbrev pub points_of : Output → List PlineVertex
points_of o = vertices_of o.numbers

-- ---- what differs

-- Two doubles differ in their bits: +0 and −0 do. Of NaNs the language has one, which differs from every number.
unfoldable pub differ : Float → Float → Bool
differ x y = not (eqb (to_bits binary64 x) (to_bits binary64 y))

-- vertex k
abbrev pub vertex_at : List PlineVertex → ℕ → PlineVertex
vertex_at vs k = get_or vs k (record { x = nan; y = nan; bulge = nan })

-- the flag of the segment that leaves vertex k: 0 where none does
abbrev pub flag_at : List ℕ → ℕ → ℕ
flag_at fs k = get_or fs k 0

-- which of the four differ at vertex k, of vertices vs with flags fs and of ws with gs
unfoldable pub fields_at : List PlineVertex → List ℕ → List PlineVertex → List ℕ → ℕ → Fields
fields_at vs fs ws gs k = record {
  x = differ (vertex_at vs k).x (vertex_at ws k).x;
  y = differ (vertex_at vs k).y (vertex_at ws k).y;
  bulge = differ (vertex_at vs k).bulge (vertex_at ws k).bulge;
  flag = not (eqb (flag_at fs k) (flag_at gs k));
}

unfoldable pub any_of : Fields → Bool
any_of f = f.x or (f.y or (f.bulge or f.flag))

-- ---- the list

-- a vertex number, with what differs there
pub record Entry : Type 0 where
  pub number : ℕ
  pub fields : Fields

-- vertex k is listed where any of the four differs
unfoldable pub entries_for : ℕ → Fields → List Entry
entries_for k f = when any_of f give record { number = k; fields = f } ∷ [] else []

-- the entries among the first k vertices, in rising order
unfoldable pub entries_to : List PlineVertex → List ℕ → List PlineVertex → List ℕ → ℕ → List Entry
entries_to vs fs ws gs zero = []
entries_to vs fs ws gs (suc k) = entries_to vs fs ws gs k ++ entries_for k (fields_at vs fs ws gs k)

-- how many vertices both have, and how many only one has
unfoldable pub shared : ℕ → ℕ → ℕ
shared v w = min v w

unfoldable pub unmatched : ℕ → ℕ → ℕ
unmatched v w = (v - w) + (w - v)

-- the whole list of two outputs: those that only one has are counted, and not listed
unfoldable pub list_of : Output → Output → List Entry
list_of a b = entries_to (points_of a) a.flags (points_of b) b.flags (shared (length (points_of a)) (length (points_of b)))

-- whether the closed marks differ
unfoldable pub marks_differ : Bool → Bool → Bool
marks_differ a b = when a give not b else b

-- ---- the answer

-- 02's 2026-03: no number is left over, and there is a flag for each segment
unfoldable pub is_even : Output → Bool
is_even o = is_whole (rows o.numbers) and eqb (length o.flags) (segments_of o.closed (length (points_of o)))

-- 02's 2026-03: over 12,288 vertices
unfoldable pub is_many : List Float → Bool
is_many numbers = ltb 12288 (length (vertices_of numbers))

-- a list of n entries fits both buffers
unfoldable pub has_room : ℕ → ℕ → ℕ → Bool
has_room n numbers fields = leb n numbers and leb n fields

-- what differs as one number: x 1, y 2, bulge 4, flag 8, added up
abbrev pub bit_of : Bool → ℕ → ℕ
bit_of b n = when b give n else 0

unfoldable pub code_of : Fields → ℕ
code_of f = bit_of f.x 1 + bit_of f.y 2 + bit_of f.bulge 4 + bit_of f.flag 8

-- the answer, and what the two lent buffers hold
pub record Outcome : Type 0 where
  pub answer : Result Differences Refusal
  pub numbers : List ℕ
  pub fields : List ℕ

abbrev pub outcome : Result Differences Refusal → List ℕ → List ℕ → Outcome
outcome a numbers fields = record { answer = a; numbers = numbers; fields = fields }

abbrev pub number_in : Entry → ℕ
number_in e = e.number

abbrev pub code_in : Entry → ℕ
code_in e = code_of e.fields

abbrev pub found_in : Output → Output → Differences
found_in a b = record {
  listed = length (list_of a b);
  unmatched = unmatched (length (points_of a)) (length (points_of b));
  marks = marks_differ a.closed b.closed;
}

-- a list at the start of a buffer, and the places past it as they were
abbrev pub at_front : List ℕ → List ℕ → List ℕ
at_front list old = list ++ drop (length list) old

-- of two outputs that can be compared
unfoldable pub listing : Output → Output → List ℕ → List ℕ → Outcome
listing a b numbers fields =
    when not (has_room (length (list_of a b)) (length numbers) (length fields)) give outcome (Err NoRoom) numbers fields else
    outcome (Ok (found_in a b)) (at_front (map number_in (list_of a b)) numbers) (at_front (map code_in (list_of a b)) fields)

-- the first output is tested, and then the second; a refusal leaves both buffers as they were
unfoldable pub compare_of : Output → Output → List ℕ → List ℕ → Outcome
compare_of a b numbers fields =
    when not (is_even a) give outcome (Err Ragged) numbers fields else
    when is_many a.numbers give outcome (Err TooMany) numbers fields else
    when not (is_even b) give outcome (Err Ragged) numbers fields else
    when is_many b.numbers give outcome (Err TooMany) numbers fields else
    listing a b numbers fields

-- ---- as callers get it

abbrev pub none : Differences
none = record { listed = 0; unmatched = 0; marks = false }

-- what differs; of a refusal nothing is told
abbrev pub differences_of : Result Differences Refusal → Differences
differences_of answer = result_unwrap_or answer none

-- 1 where the closed marks differ, and 0 where they do not
abbrev pub marks_number : Differences → ℕ
marks_number d = bit_of d.marks 1
