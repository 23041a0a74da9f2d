-- `why::finish` meets its contract. Assumes nothing.
use mathlib.Core.Path.{refl, sym, ◌∙◌}
use Rattle.floats.proofs.Choice.{yes, no}
use Rattle.moves.proofs.Finite.{sure_itself}
use Rattle.why.specs.InnerSteps.{finish_of}
use Rattle.why.proofs.finish.Goals as goal

pub returns-then-doubt : goal.returns-then-doubt
unfolding finish_of
returns-then-doubt c = yes _ _ _ (sym (sure_itself _) ∙ c.if-doubt.true) refl

pub returns : goal.returns
unfolding finish_of
returns c = no _ _ _ (sym (sure_itself _) ∙ c.if-doubt.false) refl
