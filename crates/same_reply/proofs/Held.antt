-- A row of bytes that stands at a place of a longer one, and its parts. Assumes nothing.
use mathlib.Core.Path.{◌≡◌, ap, ◌∙◌}
use mathlib.Core.List.{List, ◌∷◌, ◌++◌}
use Prim.Native.Nat.{ℕ, ◌+◌, ◌<◌}
use native.Mathlib.Nat.{zero-add}
use native.Mathlib.Omega.{arith}
use lib.ListN.{length, get_or, length-append, get_or-append}
use lib.Seq.{get_or-append-add}

-- the row w stands in bytes from place i on
pub record Holds (bytes : List ℕ) (i : ℕ) (w : List ℕ) : Type 0 where
  pub same : (j : ℕ) → j < length w → get_or bytes (i + j) 0 ≡ get_or w j 0

module _ {bytes : List ℕ} {i : ℕ} where
  pub left : (u v : List ℕ) → Holds bytes i (u ++ v) → Holds bytes i u
  left u v h = record { same = λ j l. h.same j (omega (arith, length-append u v)) ∙ get_or-append u v 0 j l }

  -- n is how long the part before it is
  pub right : (u v : List ℕ) (n : ℕ) → length u ≡ n → Holds bytes i (u ++ v) → Holds bytes (i + n) v
  right u v n e h = record {
    same = λ j l.
        let k : i + n + j ≡ i + (length u + j) = omega arith in
        ap (λ m. get_or bytes m 0) k ∙ h.same (length u + j) (omega (arith, length-append u v)) ∙ get_or-append-add u v j 0;
  }

  pub first : {x : ℕ} {w : List ℕ} → Holds bytes i (x ∷ w) → get_or bytes i 0 ≡ x
  first h = let k : i ≡ i + 0 = omega arith in ap (λ m. get_or bytes m 0) k ∙ h.same 0 (omega arith)

-- a row by itself
pub itself : (w : List ℕ) → Holds w 0 w
itself w = record { same = λ j l. rw zero-add }
