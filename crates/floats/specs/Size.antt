-- The size of a number, nearness and finiteness (01 §3, first line; 01 §8 on `abs`). Definitions only.
use Rattle.std.specs.Prelude.{Bool, true, false, Float}
use Rattle.std.specs.Float.{nan, inf, fin}
use Rattle.std.specs.Float.Ieee.{lt}
use Rattle.floats.specs.Binary64.{◌⊖◌}

-- the sign cleared: −0 gives +0, and a NaN stays one
unfoldable pub abs_of : Float → Float
abs_of nan = nan
abs_of (inf s) = inf false
abs_of (fin s m e) = fin false m e

-- a and b are within e: |a − b| < e
unfoldable pub within : Float → Float → Float → Bool
within a b e = lt (abs_of (a ⊖ b)) e

-- neither a NaN nor an infinity
unfoldable pub finite : Float → Bool
finite nan = false
finite (inf s) = false
finite (fin s m e) = true
