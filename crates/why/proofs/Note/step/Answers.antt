-- `why::Note::step` meets its contract. Assumes nothing.
use Rattle.moves.proofs.Finite.{doubt-more}
use Rattle.why.proofs.Steps.{step-none, step-drawn}
use Rattle.why.proofs.Note.step.Goals as goal

pub returns-then-not-both : goal.returns-then-not-both
returns-then-not-both c =
    step-none _ _ _ _ _ _ c.step-stepped.result c.step-stepped.ensures c.both.ensures c.if-not-both.true

pub returns : goal.returns
returns c =
    rw (c.doubt.ensures, doubt-more, c.answer_with.ensures)
    (step-drawn _ _ _ _ _ _ c.step-stepped.result c.step-stepped.ensures c.both.ensures c.if-not-both.false)
