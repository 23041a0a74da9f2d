-- `pieces::good_settings` meets its contract. Assumes nothing.
use mathlib.Core.Path.{sym, ◌∙◌}
use Rattle.floats.proofs.Choice.{and_yes, and_no}
use Rattle.pieces.proofs.good_settings.Goals as goal

pub returns-then-good_eps : goal.returns-then-good_eps
returns-then-good_eps c = and_yes _ _ (sym c.good_offset.ensures ∙ c.if-good_offset.true) (and_yes _ _ (sym c.good_eps.ensures ∙ c.if-good_eps.true) c.good_corners.ensures)

pub returns-else-good_eps : goal.returns-else-good_eps
returns-else-good_eps c = and_yes _ _ (sym c.good_offset.ensures ∙ c.if-good_offset.true) (and_no _ _ (sym c.good_eps.ensures ∙ c.if-good_eps.false) c.if-good_eps.false)

pub returns-else-good_offset : goal.returns-else-good_offset
returns-else-good_offset c = and_no _ _ (sym c.good_offset.ensures ∙ c.if-good_offset.false) c.if-good_offset.false
