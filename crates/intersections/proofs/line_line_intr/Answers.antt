-- `intersections::line_line_intr` meets its contract: the definition is folded up by what each call returned, first call first, and then each test is the code's.
-- Assumes nothing.
use mathlib.Core.Path.{refl}
use Rattle.floats.proofs.Choice.{yes, no, told}
use Rattle.intersections.specs.Lines.{line_line}
use Rattle.intersections.proofs.line_line_intr.Goals as goal

pub returns-then-abs-eps : goal.returns-then-abs-eps
unfolding line_line
returns-then-abs-eps c =
    rw (← c.sub-v.ensures, ← c.sub-u.ensures, ← c.sub-w.ensures, ← c.perp_dot-d.ensures, ← c.abs.ensures)
    (yes _ _ _ c.if-abs-eps.true (simp (c.perp_dot.ensures, c.perp_dot-then-abs-eps.ensures) at c.crossing.ensures))

pub returns-then-overlaps : goal.returns-then-overlaps
unfolding line_line
returns-then-overlaps c =
    let far = c.before.before.before in
    let sized = far.before.before.before.before in
    rw (← sized.before.before.before.before.sub-v.ensures, ← sized.before.before.before.sub-u.ensures, ← sized.before.before.sub-w.ensures, ← sized.before.perp_dot-d.ensures, ← sized.abs.ensures)
    (no _ _ _ far.if-abs-eps.false (yes _ _ _ (simp (far.place_along-a.ensures, far.sub.ensures, c.place_along-b.ensures, far.sub-2.ensures) at (told c.overlaps.ensures c.if-overlaps.true)) refl))

pub returns : goal.returns
unfolding line_line
returns c =
    let far = c.before.before.before in
    let sized = far.before.before.before.before in
    rw (← sized.before.before.before.before.sub-v.ensures, ← sized.before.before.before.sub-u.ensures, ← sized.before.before.sub-w.ensures, ← sized.before.perp_dot-d.ensures, ← sized.abs.ensures)
    (no _ _ _ far.if-abs-eps.false (no _ _ _ (simp (far.place_along-a.ensures, far.sub.ensures, c.place_along-b.ensures, far.sub-2.ensures) at (told c.overlaps.ensures c.if-overlaps.false)) refl))
