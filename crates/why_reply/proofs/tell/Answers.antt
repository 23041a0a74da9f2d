-- `tell` meets its contract. Assumes nothing.
use Rattle.why_reply.proofs.Replies.{told_text, refusal-text}
use Rattle.why_reply.proofs.tell.Goals as goal

pub returns-then-n-eq0 : goal.returns-then-n-eq0
returns-then-n-eq0 c = rw (told_text c.why-answer.ensures c.from-n.ensures c.if-n-eq0.true) c.put_told.ensures

pub returns-else-n-eq0 : goal.returns-else-n-eq0
returns-else-n-eq0 c = rw (refusal-text c.why-answer.ensures c.from-n.ensures c.if-n-eq0.false) c.refusal.ensures
