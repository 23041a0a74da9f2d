-- `sheet::draw` meets its contract. Assumes nothing.
use mathlib.Core.Path.{◌∙◌}
use Rattle.source.proofs.Segments.{segments-closed, segments_open}
use Rattle.sheet.proofs.draw.Goals as goal

pub draw_closed-requires : goal.draw_closed-requires
draw_closed-requires g c =
    let r = c.requires in rw (c.if-closed.true, segments-closed _ r.ready.two) at r

pub returns-then-closed : goal.returns-then-closed
returns-then-closed g c =
    c.draw_closed.ensures ∙ rw c.if-closed.true

pub draw_open-requires : goal.draw_open-requires
draw_open-requires g c =
    let r = c.requires in rw (c.if-closed.false, segments_open _ r.ready.two) at r

pub returns : goal.returns
returns g c =
    c.draw_open.ensures ∙ rw c.if-closed.false
