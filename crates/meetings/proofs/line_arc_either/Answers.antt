-- `meetings::line_arc_either` meets its contract. Assumes nothing.
use Rattle.meetings.proofs.Nearer.{kept, tried}
use Rattle.meetings.proofs.line_arc_either.Goals as goal

pub returns-then-is_ok : goal.returns-then-is_ok
returns-then-is_ok c = kept _ _ _ _ _ _ c.line_arc_candidate-first.ensures c.is_ok.ensures.value c.if-is_ok.true

pub returns : goal.returns
returns c = tried _ _ _ _ _ _ c.line_arc_candidate-first.ensures c.is_ok.ensures.value c.if-is_ok.false c.line_arc_candidate.ensures
