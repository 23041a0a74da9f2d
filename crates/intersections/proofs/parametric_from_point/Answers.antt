-- `intersections::parametric_from_point` meets its contract. Assumes nothing.
use Rattle.floats.proofs.Choice.{branches}
use Rattle.intersections.specs.Points.{parameter_of}
use Rattle.intersections.proofs.parametric_from_point.Goals as goal

pub returns-then-fuzzy_eq_eps : goal.returns-then-fuzzy_eq_eps
unfolding parameter_of
returns-then-fuzzy_eq_eps c = search branches

pub returns : goal.returns
unfolding parameter_of
returns c = search branches
