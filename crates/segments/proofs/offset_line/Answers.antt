-- `segments::offset_line` meets its contract. Assumes nothing.
use Rattle.vectors.specs.Plane.{unit_perp}
use Rattle.vectors.proofs.Across.{perp-length}
use Rattle.segments.specs.InnerSteps.{chord_of}
use Rattle.segments.specs.Segment.{offset_line}
use Rattle.segments.proofs.offset_line.Goals as goal

pub normalize_by-requires : goal.normalize_by-requires
unfolding chord_of
normalize_by-requires c = cc (perp-length c.sub.result)

pub returns : goal.returns
unfolding offset_line unit_perp
returns c = cc
