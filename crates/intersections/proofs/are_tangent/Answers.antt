-- `intersections::are_tangent` meets its contract. Assumes nothing.
use mathlib.Core.Path.{refl}
use Rattle.floats.proofs.Choice.{or_yes, or_no}
use Rattle.intersections.proofs.are_tangent.Goals as goal

pub returns-then-fuzzy_eq_eps : goal.returns-then-fuzzy_eq_eps
returns-then-fuzzy_eq_eps c = rw (← c.fuzzy_eq_eps.ensures) (or_yes _ _ c.if-fuzzy_eq_eps.true c.if-fuzzy_eq_eps.true)

pub returns-then-fuzzy_eq_eps-2 : goal.returns-then-fuzzy_eq_eps-2
returns-then-fuzzy_eq_eps-2 c = rw (← c.fuzzy_eq_eps.ensures, ← c.abs.ensures, ← c.fuzzy_eq_eps-else-fuzzy_eq_eps.ensures) (or_no _ _ c.if-fuzzy_eq_eps.false (or_yes _ _ c.if-fuzzy_eq_eps-2.true c.if-fuzzy_eq_eps-2.true))

pub returns-else-fuzzy_eq_eps-2 : goal.returns-else-fuzzy_eq_eps-2
returns-else-fuzzy_eq_eps-2 c = rw (← c.fuzzy_eq_eps.ensures, ← c.abs.ensures, ← c.fuzzy_eq_eps-else-fuzzy_eq_eps.ensures) (or_no _ _ c.if-fuzzy_eq_eps.false (or_no _ _ c.if-fuzzy_eq_eps-2.false refl))
