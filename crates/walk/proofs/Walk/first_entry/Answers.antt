-- `walk::Walk::first_entry` meets its contract. Assumes nothing.
use mathlib.Core.Path.{refl}
use Rattle.floats.proofs.Choice.{yes, no}
use Rattle.walk.specs.InnerSteps.{first_entry}
use Rattle.walk.proofs.Walk.first_entry.Goals as goal

pub returns-then-closed : goal.returns-then-closed
unfolding first_entry
returns-then-closed c = yes _ _ _ c.if-closed.true refl

pub returns : goal.returns
unfolding first_entry
returns c = no _ _ _ c.if-closed.false (simp (c.straight.ensures, c.start-start.ensures))
