-- `refuse` meets its contract. Assumes nothing.
use Rattle.packed.proofs.text.Text.refuse.Goals as goal

pub returns : goal.returns
returns c = rw (c.number.ensures, c.place.ensures) at c.refusal.ensures
