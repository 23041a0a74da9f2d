-- `why::ask_last` meets its contract. Assumes nothing.
use mathlib.Core.Path.{refl, sym, ap, ◌∙◌}
use Rattle.floats.proofs.Choice.{yes, no}
use Rattle.walk.specs.InnerSteps.{last_span}
use Rattle.why.specs.InnerSteps.{finish_open, last_answer}
use Rattle.why.proofs.ask_last.Goals as goal

pub returns-then-both : goal.returns-then-both
unfolding last_answer
returns-then-both c = yes _ _ _ (sym (c.both.ensures ∙ rw c.is_collapsed.ensures) ∙ c.if-both.true) refl

pub returns : goal.returns
unfolding last_answer last_span
returns c =
    no _ _ _ (sym (c.both.ensures ∙ rw c.is_collapsed.ensures) ∙ c.if-both.false)
    (c.finish_open.ensures ∙ ap finish_open (c.step.ensures ∙ rw (c.note-before.ensures, c.straight.ensures, c.span_to-span.ensures, c.end-end.ensures)))
