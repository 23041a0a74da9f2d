-- `pieces::OpenJob::shut` meets its contract. Assumes nothing.
use mathlib.Core.Path.{refl, sym, ◌∙◌}
use Rattle.floats.proofs.Choice.{yes, no}
use Rattle.pieces.specs.Calls.{shut_answer}
use Rattle.pieces.proofs.OpenJob.shut.Goals as goal

pub returns-then-was_refused : goal.returns-then-was_refused
unfolding shut_answer
returns-then-was_refused c = (yes _ _ _ (sym c.was_refused.ensures ∙ c.if-was_refused.true) c.none.ensures, refl)

pub returns : goal.returns
unfolding shut_answer
returns c = (no _ _ _ (sym c.was_refused.ensures ∙ c.if-was_refused.false) c.unchanged.ensures.0, c.unchanged.ensures.1)
