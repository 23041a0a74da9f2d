-- `intersections::prolonged_intr` meets its contract: its one test is that by which 01's answer has parameters. Assumes nothing.
use mathlib.Core.Path.{refl}
use Rattle.floats.proofs.Choice.{yes, no}
use Rattle.intersections.proofs.Prolonged.{prolonged-is}
use Rattle.intersections.proofs.prolonged_intr.Goals as goal

pub returns-then-abs-eps : goal.returns-then-abs-eps
returns-then-abs-eps c =
    rw (prolonged-is, ← c.sub-v.ensures, ← c.sub-u.ensures, ← c.sub-w.ensures, ← c.perp_dot-d.ensures, ← c.abs.ensures)
    (yes _ _ _ c.if-abs-eps.true (rw c.perp_dot.ensures refl))

pub returns : goal.returns
returns c =
    rw (prolonged-is, ← c.sub-v.ensures, ← c.sub-u.ensures, ← c.sub-w.ensures, ← c.perp_dot-d.ensures, ← c.abs.ensures)
    (no _ _ _ c.if-abs-eps.false refl)
