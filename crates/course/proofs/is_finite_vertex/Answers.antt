-- `course::is_finite_vertex` meets its contract. Assumes nothing.
use mathlib.Core.Path.{ap, ◌∙◌}
use Rattle.moves.specs.InnerSteps.{sure}
use Rattle.moves.proofs.Finite.{sure_itself}
use Rattle.course.proofs.Strokes.{sure-is}
use Rattle.course.proofs.is_finite_vertex.Goals as goal

pub returns : goal.returns
returns c = sure_itself _ ∙ ap sure c.doubt-doubt.ensures ∙ sure-is _
