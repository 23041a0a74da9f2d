-- `origin` meets its contract. Assumes nothing.
use Rattle.packed.specs.Text.{origin_line}
use Rattle.packed.proofs.Writing.{writes_more}
use Rattle.packed.proofs.text.Text.origin.Goals as goal

pub returns-in-Span : goal.returns-in-Span
unfolding origin_line
returns-in-Span c = rw c.in-Span.is (writes_more c.word.ensures c.decimal.ensures)

pub returns-in-Connector : goal.returns-in-Connector
unfolding origin_line
returns-in-Connector c = rw c.in-Connector.is (writes_more c.word-in-Connector.ensures c.decimal-in-Connector.ensures)
