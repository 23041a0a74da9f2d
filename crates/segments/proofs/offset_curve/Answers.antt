-- `segments::offset_curve` meets its contract. Assumes nothing.
use mathlib.Core.Path.{refl}
use Rattle.floats.proofs.Choice.{yes, no}
use Rattle.segments.specs.Segment.{offset_curve}
use Rattle.segments.proofs.Carried.{arc_carried}
use Rattle.segments.proofs.offset_curve.Goals as goal

pub returns-then-radius_collapses : goal.returns-then-radius_collapses
unfolding offset_curve
returns-then-radius_collapses c = record { full = yes _ _ _ (cc) (cc); marked = refl }

pub returns : goal.returns
unfolding offset_curve
returns c =
    let made = arc_carried _ _ _ _ _ c.requires c.offset_arc.ensures in
    record { full = no _ _ _ (cc) made.full; marked = made.marked }
