-- `blidrosk_why_pointed::blidrosk_why_pointed` meets its contract. Assumes nothing.
use mathlib.Core.Path.{◌∙◌}
use Rattle.blidrosk_why_pointed.proofs.blidrosk_why_pointed.Goals as goal

pub returns : goal.returns
returns c =
    c.hand.ensures ∙ rw (c.from.ensures, c.why-told.ensures, c.pointed-settings.ensures)
