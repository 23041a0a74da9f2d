-- `intersections::dist_squared` meets its contract. Assumes nothing.
use Rattle.intersections.specs.Points.{distance_squared}
use Rattle.intersections.proofs.dist_squared.Goals as goal

pub returns : goal.returns
unfolding distance_squared
returns c = simp (c.length_squared.ensures, c.sub.ensures)
