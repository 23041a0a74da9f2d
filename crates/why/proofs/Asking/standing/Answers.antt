-- `why::Asking::standing` meets its contract. Assumes nothing.
use Rattle.why.proofs.Steps.{standing-asked}
use Rattle.why.proofs.Asking.standing.Goals as goal

pub returns : goal.returns
returns c = let s = c.standing-walk in (standing-asked s.result _ _ s.ensures.0, s.ensures.1)
