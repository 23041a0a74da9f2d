-- The table of refusals: 01's number and place for each (01 §1; §5 for the program's own; 02 from 8 on). Definitions only.
use Rattle.std.specs.Prelude.{ℕ, Result, Ok, Err}
use Rattle.refusals.specs.declared.Refusal.{Refusal}
use Rattle.refusals.specs.declared.Refusal.TheVariants.{Ragged, TooMany, BadNumber, NoRoom, Repeated, NotFinite, Malformed, NoSuchSegment, NoOpenJob, NoSuchSourceSegment}

abbrev pub number_of : Refusal → ℕ
number_of Ragged = 1
number_of TooMany = 2
number_of (BadNumber k) = 3
number_of NoRoom = 4
number_of (Repeated k) = 5
number_of NotFinite = 6
number_of Malformed = 7
number_of NoSuchSegment = 8
number_of NoOpenJob = 9
number_of NoSuchSourceSegment = 13

abbrev pub place_of : Refusal → ℕ
place_of Ragged = 0
place_of TooMany = 0
place_of (BadNumber k) = k
place_of NoRoom = 0
place_of (Repeated k) = k
place_of NotFinite = 0
place_of Malformed = 0
place_of NoSuchSegment = 0
place_of NoOpenJob = 0
place_of NoSuchSourceSegment = 0

-- the number and the place that a caller is told of any answer: 0 where it is no refusal
abbrev pub number : {A : Type 0} → Result A Refusal → ℕ
number (Ok a) = 0
number (Err r) = number_of r

abbrev pub place : {A : Type 0} → Result A Refusal → ℕ
place (Ok a) = 0
place (Err r) = place_of r
