-- What demand 3 says of a choice among moves, over any kind of move with an end and any nearness. Definitions only.
use Rattle.std.specs.Prelude.{◌≡◌, List, [], ◌∷◌, Bool, true, false, ℕ, suc, ◌≤◌}

-- A choice says of each move whether it is kept. It follows the rule where it keeps each move that ends outside tolerance of the last kept point, p at the start,
-- and drops each other.
pub data Follows {M P : Type 0} (end : M → P) (close : P → P → Bool) : P → List M → List Bool → Type 0 where
  done : {p : P} → Follows end close p [] []
  keep : {p : P} {m : M} {ms : List M} {bs : List Bool} → close p (end m) ≡ false → Follows end close (end m) ms bs → Follows end close p (m ∷ ms) (true ∷ bs)
  omit : {p : P} {m : M} {ms : List M} {bs : List Bool} → close p (end m) ≡ true → Follows end close p ms bs → Follows end close p (m ∷ ms) (false ∷ bs)

-- the moves that a choice keeps
unfoldable pub chosen : {M : Type 0} → List Bool → List M → List M
chosen [] ms = []
chosen (b ∷ bs) [] = []
chosen (true ∷ bs) (m ∷ ms) = m ∷ chosen bs ms
chosen (false ∷ bs) (m ∷ ms) = chosen bs ms

-- exactly one choice follows the rule, and it keeps ks
pub record OneChoice {M P : Type 0} (end : M → P) (close : P → P → Bool) (p : P) (ms ks : List M) : Type 0 where
  pub choice : List Bool
  pub follows : Follows end close p ms choice
  pub only : (bs : List Bool) → Follows end close p ms bs → bs ≡ choice
  pub keeps : chosen choice ms ≡ ks

-- no two neighbours of a row of points are close
pub data Apart {P : Type 0} (close : P → P → Bool) : List P → Type 0 where
  none : Apart close []
  one : {p : P} → Apart close (p ∷ [])
  more : {p q : P} {ps : List P} → close p q ≡ false → Apart close (q ∷ ps) → Apart close (p ∷ q ∷ ps)

-- numbers that rise, the first at least n
pub data Rising : ℕ → List ℕ → Type 0 where
  none : {n : ℕ} → Rising n []
  next : {n i : ℕ} {is : List ℕ} → n ≤ i → Rising (suc i) is → Rising n (i ∷ is)

-- numbers that never fall, the first at least n
pub data NeverFalling : ℕ → List ℕ → Type 0 where
  none : {n : ℕ} → NeverFalling n []
  next : {n i : ℕ} {is : List ℕ} → n ≤ i → NeverFalling i is → NeverFalling n (i ∷ is)
