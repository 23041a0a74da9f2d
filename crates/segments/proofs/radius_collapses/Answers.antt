-- `segments::radius_collapses` meets its contract. Assumes nothing.
use mathlib.Core.Path.{refl}
use Rattle.segments.specs.Segment.{collapses}
use Rattle.segments.proofs.radius_collapses.Goals as goal

pub returns : goal.returns
unfolding collapses
returns c = refl
