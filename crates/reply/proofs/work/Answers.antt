-- `work` meets its contract. Assumes nothing.
use borrow.Author.Rules.{rules}
use Rattle.reply.proofs.Texts.{few-printed, done-text, refusal-text}
use Rattle.reply.proofs.work.Goals as goal

pub put_done-requires-clause-few : goal.put_done-requires-clause-few
put_done-requires-clause-few c = few-printed _ _ _ c.create_raw_offset-answer.ensures.ending c.in-Ok.is c.requires.source

pub returns-in-Ok : goal.returns-in-Ok
returns-in-Ok c =
    let e = done-text _ _ _ c.create_raw_offset-answer.ensures.ending c.in-Ok.is c.args.asked in
    let h = c.put_done.ensures in
    rw e (search (rules, h))

pub returns-in-Err : goal.returns-in-Err
returns-in-Err c = rw (refusal-text _ _ _ c.create_raw_offset-answer.ensures.ending c.in-Err.is c.args.asked) (rw (c.number.ensures, c.place.ensures) at c.refusal.ensures)
