-- `why::Telling::of_span` meets its contract. Assumes nothing.
use Rattle.why.proofs.Telling.of_span.Goals as goal

pub returns : goal.returns
returns c = rw (c.shown_param-2.ensures, c.shown_param.ensures)
