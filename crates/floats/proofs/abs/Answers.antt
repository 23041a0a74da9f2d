-- `floats::abs` meets its contract. Assumes nothing.
use Rattle.std.proofs.Common.{T, sym, subst}
use Rattle.floats.proofs.Cleared.{abs_upto, abs-past}
use Rattle.floats.proofs.abs.Goals as goal

pub returns-then-x : goal.returns-then-x
returns-then-x c = abs_upto _ (subst T (sym c.before.well_formed.0.1) tt) c.if-x.true

pub returns : goal.returns
returns c = abs-past _ c.if-x.false
