-- `segments::offset_seg` meets its contract. Assumes nothing.
use mathlib.Core.Path.{refl, sym, ◌∙◌}
use Rattle.floats.proofs.Choice.{yes, no}
use Rattle.segments.specs.Segment.{offset_seg}
use Rattle.segments.proofs.offset_seg.Goals as goal

pub offset_line-requires : goal.offset_line-requires
offset_line-requires c = c.requires.length_len

pub returns-then-bulge_is_zero : goal.returns-then-bulge_is_zero
unfolding offset_seg
returns-then-bulge_is_zero c = record { full = yes _ _ _ (cc) (cc); marked = refl }

pub curved_seg-requires : goal.curved_seg-requires
curved_seg-requires c = let p = c.requires in
    record {
      length_len = p.length_len;
      sweep_value = p.sweep_value (sym c.bulge_is_zero.ensures ∙ c.if-bulge_is_zero.false);
    }

pub returns : goal.returns
unfolding offset_seg
returns c = let made = c.curved_seg.ensures in record { full = no _ _ _ (cc) made.full; marked = made.marked }
