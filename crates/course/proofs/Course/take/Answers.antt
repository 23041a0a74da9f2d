-- `course::Course::take` meets its contract. Assumes nothing.
use mathlib.Core.Path.{◌∙◌}
use Rattle.course.proofs.Strokes.{two-taken, both-and, copied_on, held_on, entered_on, turned_on}
use Rattle.course.proofs.Course.take.Goals as goal

pub returns-then-settings : goal.returns-then-settings
returns-then-settings c =
    let on = c.with.ensures in
    both-and (copied_on _ _ _ c.if-settings.true (on.0 ∙ c.copy.ensures.0) (on.1 ∙ c.held.ensures)) on.2

pub returns-then-self-eq0 : goal.returns-then-self-eq0
returns-then-self-eq0 c =
    let on = c.with-then-self-eq0.ensures in
    both-and (held_on _ _ _ c.if-settings.false c.if-self-eq0.true (on.0 ∙ c.undrawn.ensures.0) (on.1 ∙ c.held-then-self-eq0.ensures)) on.2

pub returns-then-self-eq1 : goal.returns-then-self-eq1
returns-then-self-eq1 c =
    let on = c.with-then-self-eq1.ensures in
    both-and (entered_on _ _ _ c.if-settings.false c.if-self-eq1.true (on.0 ∙ c.undrawn-then-self-eq1.ensures.0) (on.1 ∙ c.entered.ensures)) on.2

pub returns : goal.returns
returns c = both-and (turned_on _ _ _ c.if-settings.false (two-taken c.if-self-eq0.false c.if-self-eq1.false) c.turned.ensures.0 c.turned.ensures.1) c.turned.ensures.2
