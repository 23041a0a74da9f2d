-- What the walk over a table keeps: the steps still to come, from the value so far, give the table's value. Assumes nothing.
use mathlib.Core.Path.{◌≡◌, refl}
use mathlib.Core.List.{List, [], ◌∷◌}
use Prim.Native.Nat.{ℕ, ◌+◌, ◌≤◌, ◌<◌}
use native.Mathlib.Numerals.{add-one}
use native.Mathlib.Omega.{arith}
use lib.ListN.{length, drop, get_or, drop_of_length-le}
use lib.Seq.{drop-cons}
use lib.Ieee.{Float, nan}
use Rattle.std.specs.List.{fold}
use Rattle.angles.specs.Angle.{horner_step, horner}

-- the steps over the coefficients still to come, from the value so far
abbrev pub horner_from : Float → List Float → Float → Float
horner_from a cs x = fold (λ (b c : Float). horner_step b c x) a cs

pub walk_start_lem : (t : List Float) (x : Float) → 0 < length t → horner_from (get_or t 0 nan) (drop 1 t) x ≡ horner t x
unfolding horner
walk_start_lem [] x h = absurd (omega arith)
walk_start_lem (c ∷ cs) x h = refl

pub walk-next : (t : List Float) (i : ℕ) (a x : Float) → i < length t → horner_from (horner_step a (get_or t i nan) x) (drop (i + 1) t) x ≡ horner_from a (drop i t) x
walk-next t i a x h = rw (add-one, drop-cons t i nan h) refl

pub walk_end : (t : List Float) (i : ℕ) (a x : Float) → length t ≤ i → a ≡ horner_from a (drop i t) x
walk_end t i a x h = rw (drop_of_length-le t h) refl
