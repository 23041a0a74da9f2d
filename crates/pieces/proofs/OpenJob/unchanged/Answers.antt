-- `pieces::OpenJob::unchanged` meets its contract. Assumes nothing.
use mathlib.Core.Path.{refl, ◌∙◌}
use Rattle.pieces.proofs.OpenJob.unchanged.Goals as goal

pub returns : goal.returns
returns c = (c.none.ensures ∙ rw c.number.ensures, refl)
