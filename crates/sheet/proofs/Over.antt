-- A list written over the front of another, and places of a list set to one value. Assumes nothing.
use mathlib.Core.Path.{◌≡◌, refl, sym, ap, ◌∙◌}
use mathlib.Core.List.{List, [], ◌∷◌, ◌++◌, append_assoc}
use Prim.Native.Nat.{ℕ, ◌+◌, ◌-◌, ◌<◌, ◌≤◌}
use native.Mathlib.Nat.{not-suc-le-zero, le_of_suc-le-suc}
use native.Mathlib.Omega.{arith}
use lib.ListN.{length, set, drop, replicate, take, length-replicate, replicate-append-replicate}
use lib.Seq.{length-take-le, take-append-le, take_all, drop-append-le, drop-append-add, drop_at, drop-drop}
use Rattle.sheet.specs.Buffers.{padded}
use Rattle.sheet.specs.InnerSteps.{over, cleared}

module _ {ℓ} {A : Type ℓ} where
  -- a store past what is written adds to it
  pub over-set : (xs ys : List A) (a : A) → length xs < length ys → set (over xs ys) (length xs) a ≡ over (xs ++ a ∷ []) ys
  over-set xs [] a h = absurd (not-suc-le-zero h)
  over-set [] (y ∷ ys) a h = refl
  over-set (x ∷ xs) (y ∷ ys) a h = ap (λ (t : List A). x ∷ t) (over-set xs ys a (le_of_suc-le-suc h))

  module _ (z : A) where
    -- What was written over a list, cleared from a on and up to n.
    pub cleared-over : (a n : ℕ) (xs ys : List A) → a ≤ length xs → length xs ≤ n → cleared z a (n - a) (over xs ys) ≡ padded z n (take a xs) ys
    cleared-over a n xs ys h k =
        let l : length (take a xs) ≡ a = length-take-le a xs h in
        let e : a + (n - a) ≡ length xs + (n - length xs) = omega arith in
        let f : length xs + (n - length xs) ≡ n = omega arith in
        ap (λ (t : List A). t ++ replicate (n - a) z ++ drop (a + (n - a)) (over xs ys)) (take-append-le a xs (drop (length xs) ys) h)
        ∙ ap (λ (t : List A). take a xs ++ replicate (n - a) z ++ t)
        (ap (λ (i : ℕ). drop i (over xs ys)) e ∙ drop-append-add xs (drop (length xs) ys) (n - length xs) ∙ drop-drop (n - length xs) (length xs) ys ∙ ap (λ (i : ℕ). drop i ys) f)
        ∙ ap (λ (i : ℕ). take a xs ++ replicate (n - i) z ++ drop n ys) (sym l)

    -- all of it, or none
    pub cleared-after : (n : ℕ) (xs ys : List A) → length xs ≤ n → cleared z (length xs) (n - length xs) (over xs ys) ≡ padded z n xs ys
    cleared-after n xs ys k = cleared-over (length xs) n xs ys (omega arith) k ∙ ap (λ (t : List A). padded z n t ys) (take_all (length xs) xs (omega arith))

    pub cleared-whole : (n : ℕ) (xs ys : List A) → length xs ≤ n → cleared z 0 (n - 0) (over xs ys) ≡ padded z n [] ys
    cleared-whole n xs ys k = cleared-over 0 n xs ys (omega arith) k

    -- what is written over unused places
    pub over-padded : (n : ℕ) (xs ys : List A) → length xs ≤ n → over xs (padded z n [] ys) ≡ padded z n xs ys
    over-padded n xs ys h =
        let l = length-replicate (n - 0) z in
        let e : length xs + (n - length xs) ≡ n - 0 = omega arith in
        let r : drop (length xs) (replicate (n - 0) z) ≡ replicate (n - length xs) z =
        ap (λ (i : ℕ). drop (length xs) (replicate i z)) (sym e)
        ∙ ap (drop (length xs)) (sym (replicate-append-replicate (length xs) (n - length xs) z))
        ∙ drop_at (replicate (length xs) z) (replicate (n - length xs) z) (length xs) (length-replicate (length xs) z) in
        ap (λ (t : List A). xs ++ t) (drop-append-le (length xs) (replicate (n - 0) z) (drop n ys) (omega arith) ∙ ap (λ (t : List A). t ++ drop n ys) r)
        ∙ sym (append_assoc xs (replicate (n - length xs) z) (drop n ys))

    -- what is z already counts as unused
    pub padded-same : (n k : ℕ) (ys : List A) → k ≤ n → padded z n (replicate k z) ys ≡ padded z n [] ys
    padded-same n k ys h =
        let l = length-replicate k z in
        let e : k + (n - k) ≡ n - 0 = omega arith in
        rw l (ap (λ (t : List A). t ++ drop n ys) (replicate-append-replicate k (n - k) z ∙ ap (λ (j : ℕ). replicate j z) e))
