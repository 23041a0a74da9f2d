-- `intersections::line_circle_intr` meets its contract: the definition is folded up by what each call returned, first call first, and then each test is the code's.
-- Assumes nothing.
use mathlib.Core.Path.{refl}
use Rattle.floats.proofs.Choice.{yes, no}
use Rattle.intersections.specs.LineCircle.{line_circle}
use Rattle.intersections.proofs.line_circle_intr.Goals as goal

pub returns-then-h-radius : goal.returns-then-h-radius
unfolding line_circle
returns-then-h-radius c =
    rw (
      ← c.sub-v.ensures,
      ← c.sub-w.ensures,
      ← c.dot-vv.ensures,
      ←
          c.sqrt-l.ensures,
      ← c.perp_dot.ensures,
      ← c.abs.ensures,
      ← c.dot.ensures,
    )
    (yes _ _ _ c.if-h-radius.true refl)

pub returns-then-abs-eps : goal.returns-then-abs-eps
unfolding line_circle
returns-then-abs-eps c =
    rw (
      ← c.sub-v.ensures,
      ← c.sub-w.ensures,
      ← c.dot-vv.ensures,
      ←
          c.sqrt-l.ensures,
      ← c.perp_dot.ensures,
      ← c.abs.ensures,
      ← c.dot.ensures,
      ← c.abs-2.ensures,
    )
    (no _ _ _ c.if-h-radius.false (yes _ _ _ c.if-abs-eps.true refl))

pub returns : goal.returns
unfolding line_circle
returns c =
    rw (
      ← c.sub-v.ensures,
      ← c.sub-w.ensures,
      ← c.dot-vv.ensures,
      ←
          c.sqrt-l.ensures,
      ← c.perp_dot.ensures,
      ← c.abs.ensures,
      ← c.dot.ensures,
      ← c.abs-2.ensures,
      ← c.sqrt.ensures,
    )
    (no _ _ _ c.if-h-radius.false (no _ _ _ c.if-abs-eps.false refl))
