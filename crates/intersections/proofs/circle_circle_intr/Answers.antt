-- `intersections::circle_circle_intr` meets its contract: the definition is folded up by what each call returned, first call first, and then each test is the code's.
-- Assumes nothing.
use mathlib.Core.Path.{refl}
use Rattle.floats.proofs.Choice.{yes, no, told}
use Rattle.intersections.specs.Circles.{circle_circle}
use Rattle.intersections.proofs.circle_circle_intr.Goals as goal

pub returns-then-d-eps : goal.returns-then-d-eps
unfolding circle_circle
returns-then-d-eps c =
    rw (← c.sub-cv.ensures, ← c.length-d.ensures)
    (yes _ _ _ c.if-d-eps.true c.concentric.ensures)

pub returns-then-are_apart : goal.returns-then-are_apart
unfolding circle_circle
returns-then-are_apart c =
    rw (← c.sub-cv.ensures, ← c.length-d.ensures)
    (no _ _ _ c.if-d-eps.false (yes _ _ _ (told c.are_apart.ensures c.if-are_apart.true) refl))

pub returns-then-are_tangent : goal.returns-then-are_tangent
unfolding circle_circle
returns-then-are_tangent c =
    let apart = c.before.before.before.before in
    let far = apart.before.before in
    rw (← far.before.before.sub-cv.ensures, ← far.before.length-d.ensures, ← c.mul.ensures, ← c.add-m.ensures)
    (no _ _ _ far.if-d-eps.false (no _ _ _ (told apart.are_apart.ensures apart.if-are_apart.false) (yes _ _ _ (told c.are_tangent.ensures c.if-are_tangent.true) refl)))

pub returns : goal.returns
unfolding circle_circle
returns c =
    let tangent = c.before.before.before.before.before in
    let apart = tangent.before.before.before.before in
    let far = apart.before.before in
    rw (
      ← far.before.before.sub-cv.ensures,
      ← far.before.length-d.ensures,
      ← tangent.mul.ensures,
      ← tangent.add-m.ensures,
      ←
          c.perp.ensures,
      ← c.sqrt.ensures,
      ← c.mul-side.ensures,
      ← c.add.ensures,
      ← c.sub.ensures,
    )
    (no _ _ _ far.if-d-eps.false (no _ _ _ (told apart.before.are_apart.ensures apart.if-are_apart.false) (no _ _ _ (told tangent.are_tangent.ensures tangent.if-are_tangent.false) refl)))
