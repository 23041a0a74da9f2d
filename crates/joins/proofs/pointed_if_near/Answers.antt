-- `joins::pointed_if_near` meets its contract. Assumes nothing.
use mathlib.Core.Path.{refl}
use Rattle.floats.proofs.Choice.{yes, no, told}
use Rattle.joins.specs.Corner.{pointed_if}
use Rattle.joins.proofs.pointed_if_near.Goals as goal

pub returns-then-within_ratio : goal.returns-then-within_ratio
unfolding pointed_if
returns-then-within_ratio c = yes _ _ _ (told c.within_ratio.ensures c.if-within_ratio.true) c.pointed.ensures

pub returns : goal.returns
unfolding pointed_if
returns c = no _ _ _ (told c.within_ratio.ensures c.if-within_ratio.false) refl
