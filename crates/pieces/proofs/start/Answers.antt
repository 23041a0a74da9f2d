-- `pieces::start` meets its contract. Assumes nothing.
use mathlib.Core.Path.{sym, ◌∙◌}
use Rattle.floats.proofs.Choice.{yes, no}
use Rattle.pieces.specs.Calls.{start_call}
use Rattle.pieces.proofs.start.Goals as goal

pub returns-then-good_settings : goal.returns-then-good_settings
unfolding start_call
returns-then-good_settings c = yes _ _ _ (sym c.good_settings.ensures ∙ c.if-good_settings.true) (rw (c.none.ensures, c.begun.ensures))

pub returns : goal.returns
unfolding start_call
returns c = no _ _ _ (sym c.good_settings.ensures ∙ c.if-good_settings.false) (rw (c.none-2.ensures, c.begun-2.ensures, c.number-number.ensures))
