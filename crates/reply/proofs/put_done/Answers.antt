-- `put_done` meets its contract. Assumes nothing.
use Rattle.reply.proofs.Texts.{drawing-printed, origins-printed}
use Rattle.reply.proofs.put_done.Goals as goal

pub returns-in-Drawing : goal.returns-in-Drawing
returns-in-Drawing c =
    rw (c.in-Drawing.is, ← drawing-printed c.args.r c.args.vertices.now c.args.flags.now _ c.requires.few) c.answer.ensures

pub returns-in-Origins : goal.returns-in-Origins
returns-in-Origins c =
    rw (c.in-Origins.is, ← origins-printed c.args.r c.args.vertices.now c.args.flags.now _ c.requires.few c.segment_count.ensures) c.origins.ensures
