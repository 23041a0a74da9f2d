-- `course::step_to_tip` meets its contract. Assumes nothing.
use mathlib.Core.Path.{refl, sym, ◌∙◌}
use Rattle.course.proofs.Strokes.{tip-some, tip-none, stepped_coded}
use Rattle.course.proofs.step_to_tip.Goals as goal

pub returns-then-is_pointed : goal.returns-then-is_pointed
returns-then-is_pointed c =
    let e = tip-some _ _ _ _ (sym c.is_pointed.ensures ∙ c.if-is_pointed.true) in
    rw (c.step-stepped.ensures, c.to_tip.ensures) (e.0, e.1, stepped_coded _ _ _ c.requires.1)

pub returns : goal.returns
returns c =
    let e = tip-none _ _ _ _ _ refl refl (sym c.is_pointed.ensures ∙ c.if-is_pointed.false) in
    (e.0, e.1, rw (c.step-stepped.ensures, c.to_tip.ensures) (stepped_coded _ _ _ c.requires.1))
