-- `course::Course::end` meets its contract. Assumes nothing.
use mathlib.Core.Path.{sym, ◌∙◌}
use borrow.Author.Tests.{lt-ltb, le-ltb}
use Rattle.floats.proofs.Choice.{yes, no}
use Rattle.course.specs.Course.{end_piece}
use Rattle.course.proofs.Course.end.Goals as goal

pub returns-then-self-lt2 : goal.returns-then-self-lt2
unfolding end_piece
returns-then-self-lt2 c = (yes _ _ _ (lt-ltb _ _ c.if-self-lt2.true) c.ending.ensures.0, c.ending.ensures.1)

pub returns-then-settings : goal.returns-then-settings
unfolding end_piece
returns-then-settings c = (no _ _ _ (le-ltb _ _ c.if-self-lt2.false) (yes _ _ _ c.if-settings.true c.ending-then-settings.ensures.0), c.ending-then-settings.ensures.1)

pub returns-then-is_lone_collapsed : goal.returns-then-is_lone_collapsed
unfolding end_piece
returns-then-is_lone_collapsed c =
    (no _ _ _ (le-ltb _ _ c.if-self-lt2.false) (no _ _ _ c.if-settings.false (yes _ _ _ (sym c.is_lone_collapsed.ensures ∙ c.if-is_lone_collapsed.true) c.ending-then-is_lone_collapsed.ensures.0)), c.ending-then-is_lone_collapsed.ensures.1)

pub returns : goal.returns
unfolding end_piece
returns c =
    (no _ _ _ (le-ltb _ _ c.if-self-lt2.false) (no _ _ _ c.if-settings.false (no _ _ _ (sym c.is_lone_collapsed.ensures ∙ c.if-is_lone_collapsed.false) c.last_span.ensures.0)), c.last_span.ensures.1)
