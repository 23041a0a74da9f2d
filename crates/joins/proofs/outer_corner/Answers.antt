-- `joins::outer_corner` meets its contract. Assumes nothing.
use mathlib.Core.Path.{sym, ◌∙◌}
use Rattle.joins.proofs.Corner.{mode-is, round_same}
use Rattle.joins.proofs.outer_corner.Goals as goal

pub returns-then-not-pointed : goal.returns-then-not-pointed
returns-then-not-pointed c = sym (round_same _ _ _ _ _ (sym c.requires ∙ c.if-not-pointed.true))

pub returns-in-Round : goal.returns-in-Round
returns-in-Round c = sym (mode-is _ _ _ _ _ c.in-Round.is)

pub returns-in-Pointed : goal.returns-in-Pointed
returns-in-Pointed c = c.pointed_corner.ensures ∙ sym (mode-is _ _ _ _ _ c.in-Pointed.is)
