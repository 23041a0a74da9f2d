-- `bits_of` meets its contract. Assumes nothing.
use mathlib.Core.Path.{sym, ◌∙◌}
use lib.Ieee.{to_bits}
use Rattle.bits.proofs.Nans.{only_nan}
use Rattle.bits.proofs.bits_of.Goals as goal

pub returns-then-is_nan : goal.returns-then-is_nan
unfolding to_bits
returns-then-is_nan c = rw (sym (only_nan c.args.x (sym c.is_nan.ensures.value ∙ c.if-is_nan.true)))
