-- Rows of numbers that never fall: their places, and that the numbers of kept moves never fall where those of all moves do not (`kept_never_falls`), nor the origins of
-- what is drawn of them. A last number is a bound of all before it. Assumes nothing.
use mathlib.Core.Path.{◌≡◌, refl, ap}
use mathlib.Core.Logic.{⊎_elim}
use mathlib.Core.List.Memᴰ
use mathlib.Core.List.{List, [], ◌∷◌, ◌++◌, map, Memᴰ}
use mathlib.Core.Bool.{Bool, true, false}
use Prim.Native.Nat.{ℕ, zero, suc, ◌≤◌, ◌<◌}
use native.Mathlib.Nat.{le_refl, le_trans}
use native.Mathlib.Omega.{arith}
use lib.ListN.{length, get_or}
use Rattle.vectors.specs.declared.Vector2.{Vector2}
use Rattle.moves.specs.declared.Move.{Move}
use Rattle.moves.specs.Made.{segment_of}
use Rattle.moves.specs.Moves.{kept}
use Rattle.moves.specs.Drawing.{drawn_open, drawn_closed, origins_of}
use Rattle.moves.specs.Choice.{NeverFalling}
use Rattle.moves.specs.Choice.NeverFalling.{none, next}
use Rattle.moves.proofs.Kept.{kept_near, kept_far}

-- ---- a row

pub from_less : {n m : ℕ} {is : List ℕ} → n ≤ m → NeverFalling m is → NeverFalling n is
from_less h none = none
from_less h (next l r) = next (le_trans h l) r

-- one fewer in front
pub behind : {n i : ℕ} {is : List ℕ} → NeverFalling n (i ∷ is) → NeverFalling n is
behind (next l r) = from_less l r

pub in_front : {n : ℕ} (is js : List ℕ) → NeverFalling n (is ++ js) → NeverFalling n is
in_front [] js r = none
in_front (i ∷ is) js (next l r) = next l (in_front is js r)

pub to_last : {n m : ℕ} (is : List ℕ) → NeverFalling n (is ++ m ∷ []) → n ≤ m
to_last [] (next l r) = l
to_last (i ∷ is) (next l r) = le_trans l (to_last is r)

pub at-most-last : {n m i : ℕ} (is : List ℕ) → NeverFalling n (is ++ m ∷ []) → Memᴰ i is → i ≤ m
at-most-last [] r h = absurd (Memᴰ.not-nil h)
at-most-last {i = i} (k ∷ is) (next l r) h = ⊎_elim (λ (e : i ≡ k). rw e (to_last is r)) (λ w. at-most-last is r w) (Memᴰ.cases_cons h)

module _ (d : ℕ) where
  at_least : {n : ℕ} (is : List ℕ) → NeverFalling n is → (j : ℕ) → j < length is → n ≤ get_or is j d
  at_least [] r j h = absurd (omega arith)
  at_least (i ∷ is) (next l r) zero h = l
  at_least (i ∷ is) (next l r) (suc j) h = le_trans l (at_least is r j (omega arith))

  -- a later place holds no smaller number
  pub later-no_less : {n : ℕ} (is : List ℕ) → NeverFalling n is → (i j : ℕ) → i ≤ j → j < length is → get_or is i d ≤ get_or is j d
  later-no_less [] r i j l h = absurd (omega arith)
  later-no_less (k ∷ is) (next m r) zero zero l h = le_refl k
  later-no_less (k ∷ is) (next m r) zero (suc j) l h = at_least is r j (omega arith)
  later-no_less (k ∷ is) (next m r) (suc i) zero l h = absurd (omega arith)
  later-no_less (k ∷ is) (next m r) (suc i) (suc j) l h = later-no_less is r i j (omega arith) (omega arith)

-- ---- kept moves, over any kind of move with an end and a number, and any nearness

module _ {M P : Type 0} (end : M → P) (close : P → P → Bool) (number : M → ℕ) (is : List ℕ) where
  pub kept_never_falls : (p : P) (ms : List M) {n : ℕ} → NeverFalling n (map number ms ++ is) → NeverFalling n (map number (kept end close p ms) ++ is)
  unfolding kept
  kept_never_falls p [] r = r
  kept_never_falls p (m ∷ ms) {n} (next l r) =
      by (close p (end m)) refl (kept_never_falls p ms {n = n} (from_less l r)) (kept_never_falls (end m) ms r)
    where
      by : (b : Bool) → close p (end m) ≡ b → NeverFalling n (map number (kept end close p ms) ++ is) → NeverFalling (number m) (map number (kept end close (end m) ms) ++ is)
          → NeverFalling n (map number (kept end close p (m ∷ ms)) ++ is)
      by true h i j = rw (kept_near end close p m ms h) i
      by false h i j = rw (kept_far end close p m ms h) (next l j)

-- ---- what is drawn of them

-- the source segment of a move
abbrev pub source_of : Move → ℕ
source_of m = segment_of m.origin

pub origins-numbers : (ks : List Move) → map segment_of (origins_of ks) ≡ map source_of ks
unfolding origins_of
origins-numbers [] = refl
origins-numbers (k ∷ ks) = ap (λ (t : List ℕ). source_of k ∷ t) (origins-numbers ks)

module _ {n : ℕ} (is : List ℕ) (p : Vector2) where
  pub open_never_falls : (ks : List Move) → NeverFalling n (map source_of ks ++ is) → NeverFalling n (map segment_of (drawn_open p ks).origins ++ is)
  unfolding drawn_open
  open_never_falls [] r = r
  open_never_falls (k ∷ ks) r = rw (origins-numbers (k ∷ ks)) r

  -- a lone move is not drawn
  pub closed_never_falls : (ks : List Move) → NeverFalling n (map source_of ks ++ is) → NeverFalling n (map segment_of (drawn_closed p ks).origins ++ is)
  unfolding drawn_closed
  closed_never_falls [] r = r
  closed_never_falls (k ∷ []) r = behind r
  closed_never_falls (k ∷ l ∷ ks) r = rw (origins-numbers (k ∷ l ∷ ks)) r
