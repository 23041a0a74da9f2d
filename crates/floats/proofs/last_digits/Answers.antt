-- `floats::last_digits` meets its contract: what is above zero is no NaN. Assumes nothing.
use Rattle.std.proofs.lemmas.Float.{le_right, le_of_lt, T_from_true}
use Rattle.floats.proofs.last_digits.Goals as goal

pub float_to_bits-result : goal.float_to_bits-result
float_to_bits-result c = le_right _ _ (le_of_lt _ _ (T_from_true _ c.if-x.true))
