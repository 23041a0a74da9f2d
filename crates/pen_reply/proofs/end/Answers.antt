-- `end` meets its contract. Assumes nothing.
use borrow.Author.Rules.{rules}
use Rattle.pen_reply.proofs.Steps.{end_refused, end-done}
use Rattle.pen_reply.proofs.end.Goals as goal

pub returns-then-answer-ne0 : goal.returns-then-answer-ne0
returns-then-answer-ne0 c =
    let e = end_refused _ c.end-called.ensures.called c.if-answer-ne0.true in
    record {
      step = rw e c.refused.ensures.step;
      text = rw e c.refused.ensures.text;
    }

pub returns : goal.returns
returns c =
    let e = end-done _ c.end-called.ensures.called c.if-answer-ne0.false c.segments_before-before.ensures in
    let h = c.put_closing.ensures in
    record {
      step = search (rules, e);
      text = rw e (search (rules, h));
    }
