-- `blidrosk_why::blidrosk_why` meets its contract. Assumes nothing.
use mathlib.Core.Path.{◌∙◌}
use Rattle.blidrosk_why.proofs.blidrosk_why.Goals as goal

pub returns : goal.returns
returns c =
    c.hand.ensures ∙ rw (c.from.ensures, c.why-told.ensures, c.round-settings.ensures)
