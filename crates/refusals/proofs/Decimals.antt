-- Each limit of 01 §1 is the double nearest to its decimal. Assumes nothing.
use mathlib.Core.Path.{◌≡◌, refl}
use mathlib.Core.Bool.{false}
use Prim.Native.Nat.{◌^◌}
use lib.Ieee.{binary64, of_bits, round}
use Rattle.refusals.specs.Limits.{reach, bulge_limit, least_eps, most_eps}

-- 1,000,000
pub reach_nearest : reach ≡ round binary64 false (10 ^ 6) 1
unfolding of_bits round
reach_nearest = refl

-- 1,000,000,000
pub bulge_nearest : bulge_limit ≡ round binary64 false (10 ^ 9) 1
unfolding of_bits round
bulge_nearest = refl

-- 1e-9
pub least_nearest : least_eps ≡ round binary64 false 1 (10 ^ 9)
unfolding of_bits round
least_nearest = refl

-- 0.01
pub most_nearest : most_eps ≡ round binary64 false 1 (10 ^ 2)
unfolding of_bits round
most_nearest = refl
