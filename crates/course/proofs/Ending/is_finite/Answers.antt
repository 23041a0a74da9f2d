-- `course::Ending::is_finite` meets its contract. Assumes nothing.
use mathlib.Core.Path.{sym, ◌∙◌}
use Rattle.floats.proofs.Choice.{and_yes, and_no}
use Rattle.course.proofs.Strokes.{finite-ending, finite_unended}
use Rattle.course.proofs.Ending.is_finite.Goals as goal

pub returns-then-is_finite : goal.returns-then-is_finite
returns-then-is_finite c = and_yes _ _ (sym c.is_finite.ensures ∙ c.if-is_finite.true) c.is_finite_vertex.ensures ∙ sym (finite-ending _ _ c.in-Some.is)

pub returns-else-is_finite : goal.returns-else-is_finite
returns-else-is_finite c = and_no _ _ (sym c.is_finite.ensures ∙ c.if-is_finite.false) c.if-is_finite.false ∙ sym (finite-ending _ _ c.in-Some.is)

pub returns-in-None : goal.returns-in-None
returns-in-None c = c.is_finite-in-None.ensures ∙ sym (finite_unended _ c.in-None.is)
