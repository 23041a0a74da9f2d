-- `part::is_naming` meets its contract. Assumes nothing.
use Rattle.part.proofs.Front.{named, unnamed}
use Rattle.part.proofs.is_naming.Goals as goal

pub returns-then-named : goal.returns-then-named
returns-then-named c = named _ _ _ c.if-named.true

pub returns : goal.returns
returns c = unnamed _ _ _ c.if-named.false
