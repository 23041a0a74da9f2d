-- What the table of refusals says of every refusal. Assumes nothing.
use mathlib.Core.Path.{◌≡◌}
use native.Mathlib.Omega.{arith}
use Rattle.refusals.specs.declared.Refusal.{Refusal}
use Rattle.refusals.specs.declared.Refusal.TheVariants.{Ragged, TooMany, BadNumber, NoRoom, Repeated, NotFinite, Malformed, NoSuchSegment, NoOpenJob, NoSuchSourceSegment}
use Rattle.refusals.specs.Table.{number_of}

-- no refusal has the number 0
pub some_number : (r : Refusal) → number_of r ≡ 0 → ⊥
some_number Ragged e = omega arith
some_number TooMany e = omega arith
some_number (BadNumber k) e = omega arith
some_number NoRoom e = omega arith
some_number (Repeated k) e = omega arith
some_number NotFinite e = omega arith
some_number Malformed e = omega arith
some_number NoSuchSegment e = omega arith
some_number NoOpenJob e = omega arith
some_number NoSuchSourceSegment e = omega arith
