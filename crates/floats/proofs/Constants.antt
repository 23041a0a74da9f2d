-- Each constant that the rules name is the double nearest to its number. Assumes nothing.
use Rattle.std.proofs.Common.{◌≡◌, ◌^◌, false, [], ◌∷◌, refl}
use lib.Ieee.{binary64, of_bits, round}
use Rattle.floats.specs.Binary64.{zero, half, one, two, four, eight, fuzzy}

pub whole-and-half :
    zero ∷ half ∷ one ∷ two ∷ four ∷ eight ∷ []
    ≡ round binary64 false 0 1 ∷ round binary64 false 1 2 ∷ round binary64 false 1 1 ∷ round binary64 false 2 1 ∷ round binary64 false 4 1 ∷ round binary64 false 8 1 ∷ []
unfolding of_bits round
whole-and-half = refl

-- 1e-8
pub fuzzy_nearest : fuzzy ≡ round binary64 false 1 (10 ^ 8)
unfolding of_bits round
fuzzy_nearest = refl
