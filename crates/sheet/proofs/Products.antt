-- How many places the moves of a row of turns take, by those of one turn. Assumes nothing.
use mathlib.Core.Path.{◌≡◌}
use Prim.Native.Nat.{ℕ, zero, suc, ◌+◌, ◌*◌, ◌-◌, ◌≤◌}
use native.Mathlib.Omega.{arith}

-- one turn of k or more
pub product_one : (m k : ℕ) → 1 ≤ k → m ≤ m * k
product_one m zero h = absurd (omega arith)
product_one m (suc k) h = omega arith

-- all but one of k
pub product_less : (m k : ℕ) → 1 ≤ k → m * (k - 1) + m ≡ m * k
product_less m zero h = absurd (omega arith)
product_less m (suc k) h = let e : suc k - 1 ≡ k = omega arith in rw e (omega arith)

pub product_most : (m n k : ℕ) → m ≤ n → m * k ≤ n * k
product_most m n zero h = omega arith
product_most m n (suc k) h = omega (arith, product_most m n k h)

-- the first of n + 1 turns, of which l lead in, and the others
pub product_turns : (m n l : ℕ) → m * (1 - l) + m * (n - (l - 1)) ≡ m * (suc n - l)
product_turns m n zero = let a : 1 - 0 ≡ 1 = omega arith in let b : n - (0 - 1) ≡ n = omega arith in let c : suc n - 0 ≡ suc n = omega arith in rw (a, b, c) (omega arith)
product_turns m n (suc l) =
    let a : 1 - suc l ≡ 0 = omega arith in
    let b : n - (suc l - 1) ≡ n - l = omega arith in
    let c : suc n - suc l ≡ n - l = omega arith in
    rw (a, b, c) (omega arith)
