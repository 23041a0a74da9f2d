-- `number_of` meets its contract. Assumes nothing.
use mathlib.Core.Path.{◌∙◌}
use Rattle.std.proofs.lemmas.Float.{not_nan_f64_bits}
use Rattle.bits.proofs.Nans.{above, made}
use Rattle.bits.proofs.number_of.Goals as goal

pub returns-then-bits-gt-INFINITY : goal.returns-then-bits-gt-INFINITY
returns-then-bits-gt-INFINITY c = made ∙ above _ c.if-bits-gt-INFINITY.true

pub float_from_bits-result : goal.float_from_bits-result
float_from_bits-result c = not_nan_f64_bits _ c.if-bits-gt-INFINITY.false
