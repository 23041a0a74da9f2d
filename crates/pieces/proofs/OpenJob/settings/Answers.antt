-- `pieces::OpenJob::settings` meets its contract. Assumes nothing.
use borrow.Author.Tests.{eq-eqb, ne_eqb}
use Rattle.floats.proofs.Choice.{yes, no}
use Rattle.pieces.specs.Calls.{settings_of}
use Rattle.pieces.proofs.OpenJob.settings.Goals as goal

pub returns-then-self-eq0 : goal.returns-then-self-eq0
unfolding settings_of
returns-then-self-eq0 c = yes _ _ _ (eq-eqb _ _ c.if-self-eq0.true) c.round.ensures

pub returns : goal.returns
unfolding settings_of
returns c = no _ _ _ (ne_eqb _ _ c.if-self-eq0.false) c.pointed.ensures
