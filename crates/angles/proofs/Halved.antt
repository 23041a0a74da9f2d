-- Several halvings side by side. What the loop over them keeps: the tangents before an index are halved, and the others are as they were. And three times halved they lead
-- to the arc tangents. Assumes nothing.
use mathlib.Core.Path.{◌≡◌, refl, ap, ◌∙◌}
use mathlib.Core.List.{List, [], ◌∷◌}
use Prim.Native.Nat.{ℕ, zero, suc, ◌+◌, ◌≤◌, ◌<◌}
use native.Mathlib.Omega.{arith}
use native.Mathlib.Numerals.{add-one}
use Rattle.std.specs.Prelude.{map}
use Rattle.std.proofs.Math.ListN.{length, length-map, set, get_or, get_or-map}
use Rattle.std.proofs.lemmas.List.{map-set}
use lib.Ieee.{Float}
use Rattle.angles.specs.declared.Halving.{Halving}
use Rattle.angles.specs.Angle.{halve, atan_by_eighth, atan_small}
use Rattle.angles.specs.InnerSteps.{tangents}

unfoldable pub halved_upto : ℕ → List Float → List Float
halved_upto zero xs = xs
halved_upto (suc n) [] = []
halved_upto (suc n) (x ∷ xs) = halve x ∷ halved_upto n xs

next : (i : ℕ) (xs : List Float) (d : Float) → i < length xs → set (halved_upto i xs) i (halve (get_or (halved_upto i xs) i d)) ≡ halved_upto (suc i) xs
unfolding halved_upto
next i [] d h = absurd (omega arith)
next zero (x ∷ xs) d h = refl
next (suc i) (x ∷ xs) d h = ap (λ (ys : List Float). halve x ∷ ys) (next i xs d (omega arith))

-- the halving at the index is halved
pub halved_next :
    (hs started : List Halving) (i : ℕ) (h d : Halving) →
    i < length started →
    tangents hs ≡ halved_upto i (tangents started) →
    h.x ≡ halve (get_or hs i d).x →
    tangents (set hs i h) ≡ halved_upto (i + 1) (tangents started)
halved_next hs started i h d within so_far halved =
    rw (map-set, halved, ← get_or-map (λ (k : Halving). k.x) hs i d, so_far, add-one)
    (next i (tangents started) d.x (rw length-map within))

pub all_halved : (i : ℕ) (xs : List Float) → length xs ≤ i → halved_upto i xs ≡ map halve xs
unfolding halved_upto
all_halved zero [] h = refl
all_halved (suc i) [] h = refl
all_halved zero (x ∷ xs) h = absurd (omega arith)
all_halved (suc i) (x ∷ xs) h = ap (λ (ys : List Float). halve x ∷ ys) (all_halved i xs (omega arith))

pub as_many : (hs ks : List Halving) → tangents ks ≡ map halve (tangents hs) → length ks ≡ length hs
as_many hs ks e = simp length-map at (ap length e)

by_eighths : (hs : List Halving) → map (λ (h : Halving). atan_by_eighth h.x) hs ≡ map atan_by_eighth (tangents hs)
by_eighths [] = refl
by_eighths (h ∷ hs) = ap (λ (ys : List Float). atan_by_eighth h.x ∷ ys) (by_eighths hs)

thrice : (xs : List Float) → map atan_by_eighth (map halve (map halve (map halve xs))) ≡ map atan_small xs
unfolding atan_small
thrice [] = refl
thrice (x ∷ xs) = ap (λ (ys : List Float). atan_small x ∷ ys) (thrice xs)

pub small_atans :
    (xs : List Float) (start first second third : List Halving) →
    tangents start ≡ xs →
    tangents first ≡ map halve (tangents start) →
    tangents second ≡ map halve (tangents first) →
    tangents third ≡ map halve (tangents second) →
    map (λ (h : Halving). atan_by_eighth h.x) third ≡ map atan_small xs
small_atans xs start first second third p q r s =
    by_eighths third ∙ ap (map atan_by_eighth) (s ∙ ap (map halve) (r ∙ ap (map halve) (q ∙ ap (map halve) p))) ∙ thrice xs
