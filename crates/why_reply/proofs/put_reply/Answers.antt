-- `put_reply` meets its contract. Assumes nothing.
use Rattle.why_reply.proofs.Replies.{cut_short, asked}
use Rattle.why_reply.proofs.put_reply.Goals as goal

pub returns-then-bytes-lt4 : goal.returns-then-bytes-lt4
returns-then-bytes-lt4 c = rw (cut_short _ c.if-bytes-lt4.true) c.refuse.ensures

pub returns-else-bytes-lt4 : goal.returns-else-bytes-lt4
returns-else-bytes-lt4 c = rw (asked _ c.segment_of-segment.ensures) c.put_reply_about.ensures
