-- `blidrosk_compare::blidrosk_compare` meets its contract. Assumes nothing.
use mathlib.Core.Path.{ap}
use Rattle.compare.specs.Compare.{Outcome}
use Rattle.blidrosk_compare.specs.Handed.{handed_of}
use Rattle.blidrosk_compare.proofs.blidrosk_compare.Goals as goal

pub returns : goal.returns
unfolding handed_of
returns c =
    rw (c.marks_number.ensures, c.place.ensures, c.number-number.ensures, c.unwrap_or-found.ensures, c.none.ensures) (ap (λ (o : Outcome). handed_of o) c.compare-compared.ensures)
