-- `walk::Walk::entering` meets its contract. Assumes nothing.
use Rattle.walk.specs.InnerSteps.{entering}
use Rattle.walk.proofs.Walk.entering.Goals as goal

pub returns : goal.returns
unfolding entering
returns c = (simp (c.add_first-pen.ensures, c.first_entry-entry.ensures), λ fit. record { marked = fit.marked; seen = fit.seen })
