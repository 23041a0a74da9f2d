-- `whole_root n` is the largest number whose square is at most n. Assumes nothing.
use Rattle.std.proofs.Common.{◌≡◌, ℕ, zero, suc, ◌+◌, ◌*◌, ◌/◌, ◌<◌, ◌≤◌, refl, subst, le_trans, mul-le-mul, lt_of_not-le, not-le_of_lt, arith}
use lib.Ieee.{size, root_below}
use lib.Ieee.Root.{Root, whole_part}
use Rattle.floats.specs.Root.{root_in, whole_root}

pub sq_mono : (a b : ℕ) → a ≤ b → a * a ≤ b * b
sq_mono a b h = mul-le-mul h h

-- a square root is compared by comparing the squares
pub sq_lt : (a b n : ℕ) → a * a ≤ n → n < b * b → a < b
sq_lt a b n h k = lt_of_not-le (λ (g : b ≤ a). not-le_of_lt k (le_trans (sq_mono b a g) h))

pub sq_le : (a b n : ℕ) → a * a ≤ n → n < (b + 1) * (b + 1) → a ≤ b
sq_le a b n h k = let l : a < b + 1 = sq_lt a (b + 1) n h k in omega arith

-- the logic's definition and `root_in` are one
pub root_alike : (k n : ℕ) → root_below k n ≡ root_in k n
unfolding root_below root_in
root_alike zero n = refl
root_alike (suc k) n = rw (root_alike k (n / 4)) refl

whole : (n : ℕ) → Root (whole_root n) n
unfolding whole_root
whole n = subst (λ (r : ℕ). Root r n) (root_alike (size n) n) (whole_part n)

pub whole-low : (n : ℕ) → whole_root n * whole_root n ≤ n
whole-low n = (whole n).0

pub whole-high : (n : ℕ) → n < (whole_root n + 1) * (whole_root n + 1)
whole-high n = (whole n).1
