-- Which part of an output belongs to a source segment (02's 2026-09). Definitions only.
use Rattle.std.specs.Prelude.{ℕ, suc, ◌+◌, List, [], ◌∷◌, Bool, true, false, not, eqb, ltb, length, take, drop, Result, Ok, Err}
use Rattle.std.specs.Result.{result_unwrap_or}
use Rattle.floats.specs.Choice.{when◌give◌else◌}
use Rattle.refusals.specs.declared.Refusal.{Refusal}
use Rattle.refusals.specs.declared.Refusal.TheVariants.{Ragged, NoSuchSourceSegment}
use Rattle.moves.specs.declared.Origin.{Origin}
use Rattle.moves.specs.Made.{segment_of}
use Rattle.part.specs.declared.Bounds.{Bounds}

-- an origin names segment s, as its span or as the connector after it; or, where b is false, it does not
unfoldable pub naming : Bool → ℕ → Origin → Bool
naming true s o = eqb (segment_of o) s
naming false s o = not (eqb (segment_of o) s)

-- how many origins at the front of a row do so, up to the first that does not
unfoldable pub front : Bool → ℕ → List Origin → ℕ
front b s [] = 0
front b s (o ∷ os) = elim (naming b s o) [ true ↦ suc (front b s os) | false ↦ 0 ]

-- the part of `count` output segments from `start` on; the empty one
abbrev pub part_at : ℕ → ℕ → Bounds
part_at start count = record { start = record { 0 = start }; count = count }

abbrev pub empty : Bounds
empty = part_at 0 0

-- the first unbroken part of a row whose origins name segment s, or an empty one
unfoldable pub part_of : ℕ → List Origin → Bounds
part_of s os =
    let start = front false s os in
    let count = front true s (drop start os) in
    when eqb count 0 give empty else part_at start count

-- The answer for an output of a source of n segments, with so many flags and these origins. An output segment's number has 32 bits: origins from place 2³² − 1 on
-- are not looked at.
unfoldable pub part_answer : ℕ → ℕ → List Origin → ℕ → Result Bounds Refusal
part_answer n flags os s =
    when not (eqb flags (length os)) give Err Ragged else
    when not (ltb s n) give Err NoSuchSourceSegment else
    Ok (part_of s (take 0xffff_ffff os))

-- ---- as callers get it

abbrev pub bounds_of : Result Bounds Refusal → Bounds
bounds_of answer = result_unwrap_or answer empty

-- the part that an answer gives, empty where it is refused
abbrev pub part_for : ℕ → ℕ → List Origin → ℕ → Bounds
part_for n flags os s = bounds_of (part_answer n flags os s)

-- its flags, of those that are lent
unfoldable pub flags_in : Bounds → List ℕ → List ℕ
flags_in part flags = take part.count (drop part.start.0 flags)

-- and where they stand in memory, the lent ones standing at p: in the same block, so many bytes after their first
unfoldable pub stand_in : Bounds → ℕ × ℕ → ℕ × ℕ
stand_in part p = (p.0, part.start.0 + p.1)
