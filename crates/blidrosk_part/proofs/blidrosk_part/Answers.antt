-- `blidrosk_part::blidrosk_part` meets its contract. Assumes nothing.
use mathlib.Core.Path.{ap}
use Rattle.blidrosk_part.specs.Handed.{handed_of}
use Rattle.blidrosk_part.proofs.blidrosk_part.Goals as goal

pub returns : goal.returns
unfolding handed_of
returns c =
    rw (c.place.ensures, c.number-number.ensures, c.unwrap_or-bounds.ensures, c.empty.ensures) (ap handed_of c.find-found.ensures)
