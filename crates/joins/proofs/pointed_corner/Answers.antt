-- `joins::pointed_corner` meets its contract. Assumes nothing.
use mathlib.Core.Path.{refl}
use borrow.Author.Rules.{rules}
use Rattle.floats.proofs.Choice.{yes, no, told}
use Rattle.joins.proofs.pointed_corner.Goals as goal

pub returns-then-not-is_outer_turn : goal.returns-then-not-is_outer_turn
returns-then-not-is_outer_turn c = no _ _ _ (told c.is_outer_turn.ensures c.if-not-is_outer_turn.true) refl

pub returns-in-Line : goal.returns-in-Line
returns-in-Line c = yes _ _ _ (told c.is_outer_turn.ensures c.if-not-is_outer_turn.false) (rw c.in-Line.is c.corner_from_line.ensures)

pub returns : goal.returns
returns c = yes _ _ _ (told c.is_outer_turn.ensures c.if-not-is_outer_turn.false) (search rules)
