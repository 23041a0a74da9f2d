-- Two tests of the code that both hold, with no early end, are those of a definition. Assumes nothing.
use mathlib.Core.Path.{◌≡◌, refl}
use mathlib.Core.Bool.{Bool, true, false, ◌&&◌}
use Rattle.floats.specs.Choice.{◌and◌}

same : (a b : Bool) → (a && b) ≡ (a and b)
unfolding ◌and◌
same true b = refl
same false b = refl

pub both : (a b : Bool) {p q : Bool} → p ≡ a → q ≡ b → (p && q) ≡ (a and b)
both a b e f = rw (e, f) (same a b)
