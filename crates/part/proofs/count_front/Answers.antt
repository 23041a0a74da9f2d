-- `part::count_front` meets its contract. Assumes nothing.
use Rattle.part.proofs.Front.{front-first}
use Rattle.part.proofs.count_front.Goals as goal

pub returns-clause-value : goal.returns-clause-value
returns-clause-value c = rw (c.unwrap_or.ensures, c.first_other.ensures) (front-first _ _ _)
