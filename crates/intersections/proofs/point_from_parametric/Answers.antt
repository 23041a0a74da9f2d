-- `intersections::point_from_parametric` meets its contract. Assumes nothing.
use Rattle.intersections.specs.Points.{point_at}
use Rattle.intersections.proofs.point_from_parametric.Goals as goal

pub returns : goal.returns
unfolding point_at
returns c = simp (c.add.ensures, c.mul.ensures, c.sub.ensures)
