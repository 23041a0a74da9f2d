-- `course::is_finite` meets its contract. Assumes nothing.
use mathlib.Core.Path.{sym, ◌∙◌}
use Rattle.course.proofs.Strokes.{finite-drawn, finite-undrawn}
use Rattle.course.proofs.is_finite.Goals as goal

pub returns-then-stepped : goal.returns-then-stepped
returns-then-stepped c = c.is_finite_vertex.ensures ∙ sym (finite-drawn _ c.if-stepped.true)

pub returns : goal.returns
returns c = sym (finite-undrawn _ c.if-stepped.false)
