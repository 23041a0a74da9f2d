-- `draw` meets its contract. Assumes nothing.
use borrow.Author.Rules.{rules}
use Rattle.pen_reply.proofs.Steps.{draw-refused, draw-done}
use Rattle.pen_reply.proofs.draw.Goals as goal

pub returns-then-answer-ne0 : goal.returns-then-answer-ne0
returns-then-answer-ne0 c =
    let e = draw-refused _ _ c.numbers_in-source.ensures c.draw-called.ensures.called c.if-answer-ne0.true in
    record {
      step = rw e c.refused.ensures.step;
      text = rw e c.refused.ensures.text;
    }

pub returns : goal.returns
returns c =
    let e = draw-done _ _ c.numbers_in-source.ensures c.draw-called.ensures.called c.if-answer-ne0.false in
    let h = c.put_piece.ensures in
    record {
      step = search (rules, e);
      text = rw e (search (rules, h));
    }
