-- `moves::Pen::step` meets its contract. Assumes nothing.
use Rattle.moves.specs.InnerSteps.{step_of}
use Rattle.moves.proofs.Pen.step.Goals as goal

pub returns : goal.returns
unfolding step_of
returns c = simp (c.after-pen.ensures, c.from_vector2.ensures, c.fuzzy_eq_eps-dropped.ensures)
