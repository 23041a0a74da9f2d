-- `segments::curved_seg` meets its contract. Assumes nothing.
use Rattle.segments.specs.Segment.{curved_seg}
use Rattle.segments.proofs.curved_seg.Goals as goal

pub arc_support-c-requires : goal.arc_support-c-requires
arc_support-c-requires c = c.requires.length_len

pub offset_curve-requires : goal.offset_curve-requires
offset_curve-requires c = c.requires.sweep_value

pub returns : goal.returns
unfolding curved_seg
returns c = let made = c.offset_curve.ensures in record { full = cc made.full; marked = made.marked }
