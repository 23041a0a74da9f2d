-- `intersections::on_one_line` meets its contract. Assumes nothing.
use Rattle.floats.proofs.Choice.{and_yes, and_no}
use Rattle.intersections.proofs.on_one_line.Goals as goal

pub returns-then-abs-eps : goal.returns-then-abs-eps
returns-then-abs-eps c = and_yes _ _ (simp (c.abs.ensures, c.perp_dot.ensures) at c.if-abs-eps.true) (simp (c.abs-then-abs-eps.ensures, c.perp_dot-then-abs-eps.ensures))

pub returns-else-abs-eps : goal.returns-else-abs-eps
returns-else-abs-eps c = and_no _ _ (simp (c.abs.ensures, c.perp_dot.ensures) at c.if-abs-eps.false) c.if-abs-eps.false
