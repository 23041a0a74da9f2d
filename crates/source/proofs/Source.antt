-- Lent numbers and their vertices: how many there are, and which one stands at a place. Assumes nothing.
use mathlib.Core.Path.{◌≡◌, refl, sym, ◌∙◌}
use mathlib.Core.Logic.{◌↔◌}
use mathlib.Core.List.{List, [], ◌∷◌}
use mathlib.Core.Bool.{Bool, true, false}
use Prim.Native.Nat.{ℕ, zero, suc, ◌+◌, ◌*◌, ◌≤◌, ◌<◌, ◌/◌, min}
use native.Mathlib.Nat.{min-le_left, min-le_right, min-zero, zero-min}
use native.Mathlib.Numerals.{add-one}
use native.Mathlib.Omega.{arith}
use borrow.Author.Tests.{eqb-true, eq-eqb}
use lib.Dec.{eqb}
use lib.ListN.{length, drop, get_or}
use lib.Seq.{drop-cons}
use lib.Ieee.{Float, nan}
use Rattle.floats.proofs.Choice.{both_pass}
use Rattle.segments.specs.declared.PlineVertex.{PlineVertex}
use Rattle.source.specs.Source.{vertices_of, columns_of, Lent, rows, columns, vertices_in, Whole, is_whole}
use Rattle.source.specs.InnerSteps.{lent_by, count_by, whole_by, vertex_of}

-- ---- how many there are

-- in rows a part of a vertex at the end counts for none
pub length-vertices : (s : List Float) → length (vertices_of s) ≡ length s / 3
unfolding vertices_of
length-vertices [] = refl
length-vertices (x ∷ []) = refl
length-vertices (x ∷ y ∷ []) = refl
length-vertices (x ∷ y ∷ b ∷ s) = rw (length-vertices s) (omega arith)

-- the shortest column says how many
pub length-columns : (xs ys bs : List Float) → length (columns_of xs ys bs) ≡ min (min (length xs) (length ys)) (length bs)
unfolding columns_of
length-columns [] ys bs = rw (zero-min (length ys)) (sym (zero-min (length bs)))
length-columns (x ∷ xs) [] bs = rw (min-zero (length (x ∷ xs))) (sym (zero-min (length bs)))
length-columns (x ∷ xs) (y ∷ ys) [] = sym (min-zero (min (length (x ∷ xs)) (length (y ∷ ys))))
length-columns (x ∷ xs) (y ∷ ys) (b ∷ bs) = omega (arith, length-columns xs ys bs)

-- there are no more than places in each
pub columns_most : (xs ys bs : List Float) → (length (columns_of xs ys bs) ≤ length xs) × (length (columns_of xs ys bs) ≤ length ys) × (length (columns_of xs ys bs) ≤ length bs)
columns_most xs ys bs =
    let n = length-columns xs ys bs in
    let l = min-le_left (min (length xs) (length ys)) (length bs) in
    let p = min-le_left (length xs) (length ys) in
    let q = min-le_right (length xs) (length ys) in
    let r = min-le_right (min (length xs) (length ys)) (length bs) in
    (omega arith, omega arith, omega arith)

-- the lengths of the lists tell how many, in either layout
pub count-is : (c : Bool) (xs ys bs : List Float) → length (vertices_in (lent_by c xs ys bs)) ≡ count_by c (length xs) (length ys) (length bs)
count-is true xs ys bs = length-columns xs ys bs
count-is false xs ys bs = length-vertices xs

-- and whether a number is left over
pub whole_is : (c : Bool) (xs ys bs : List Float) → is_whole (lent_by c xs ys bs) ≡ whole_by c (length xs) (length ys) (length bs)
whole_is true xs ys bs = refl
whole_is false xs ys bs = refl

-- ---- which one stands at a place

-- whatever stands for a vertex that is not there
pub vertex-is : (vs : List PlineVertex) (k : ℕ) (d : PlineVertex) → k < length vs → get_or vs k d ≡ vertex_of vs k
unfolding vertex_of
vertex-is [] k d h = absurd (omega arith)
vertex-is (v ∷ vs) zero d h = refl
vertex-is (v ∷ vs) (suc k) d h = vertex-is vs k d (omega arith)

pub drop-vertices : (vs : List PlineVertex) (k : ℕ) → k < length vs → drop k vs ≡ vertex_of vs k ∷ drop (k + 1) vs
drop-vertices vs k h = rw (add-one, ← vertex-is vs k (vertex_of vs k) h) (drop-cons vs k (vertex_of vs k) h)

pub row_at : (s : List Float) (k : ℕ) → k < length (vertices_of s) → vertex_of (vertices_of s) k ≡ record { x = get_or s (3 * k) nan; y = get_or s (3 * k + 1) nan; bulge = get_or s (3 * k + 2) nan }
unfolding vertices_of vertex_of
row_at [] k h = absurd (omega arith)
row_at (x ∷ []) k h = absurd (omega arith)
row_at (x ∷ y ∷ []) k h = absurd (omega arith)
row_at (x ∷ y ∷ b ∷ s) zero h = refl
row_at (x ∷ y ∷ b ∷ s) (suc k) h =
    let p : 3 * suc k ≡ suc (suc (suc (3 * k))) = omega arith in
    let q : 3 * suc k + 1 ≡ suc (suc (suc (3 * k + 1))) = omega arith in
    let r : 3 * suc k + 2 ≡ suc (suc (suc (3 * k + 2))) = omega arith in
    rw (r, q, p) (row_at s k (omega arith))

pub column_at : (xs ys bs : List Float) (k : ℕ) → k < length (columns_of xs ys bs)
    → vertex_of (columns_of xs ys bs) k ≡ record { x = get_or xs k nan; y = get_or ys k nan; bulge = get_or bs k nan }
unfolding columns_of vertex_of
column_at [] ys bs k h = absurd (omega arith)
column_at (x ∷ xs) [] bs k h = absurd (omega arith)
column_at (x ∷ xs) (y ∷ ys) [] k h = absurd (omega arith)
column_at (x ∷ xs) (y ∷ ys) (b ∷ bs) zero h = refl
column_at (x ∷ xs) (y ∷ ys) (b ∷ bs) (suc k) h = column_at xs ys bs k (omega arith)

-- a place of a vertex is one of each list
pub row_within : (s : List Float) (k : ℕ) → k < length (vertices_of s) → 3 * k + 3 ≤ length s
row_within s k h = omega (arith, length-vertices s)

pub column_within : (xs ys bs : List Float) (k : ℕ) → k < length (columns_of xs ys bs) → (k < length xs) × (k < length ys) × (k < length bs)
column_within xs ys bs k h =
    let n = columns_most xs ys bs in
    (omega (arith, n.0), omega (arith, n.1), omega (arith, n.2))

-- ---- whether a number is left over
pub whole-told : (l : Lent) → is_whole l ≡ true → Whole l
whole-told (rows ns) e = eqb-true _ _ e
whole-told (columns xs ys bs) e = let p = (both_pass (eqb (length xs) (length ys)) (eqb (length ys) (length bs))).0 e in (eqb-true _ _ p.0, eqb-true _ _ p.1)

pub whole_passes : (l : Lent) → Whole l → is_whole l ≡ true
whole_passes (rows ns) h = eq-eqb _ _ h
whole_passes (columns xs ys bs) h = (both_pass (eqb (length xs) (length ys)) (eqb (length ys) (length bs))).1 (eq-eqb _ _ h.0, eq-eqb _ _ h.1)

-- of two, one is whole exactly where the other is
pub whole_same : (l m : Lent) → Whole l ↔ Whole m → is_whole l ≡ is_whole m
whole_same l m both = by (is_whole l) (is_whole m) refl refl
  where
    by : (p q : Bool) → is_whole l ≡ p → is_whole m ≡ q → is_whole l ≡ is_whole m
    by true q e f = e ∙ sym (whole_passes m (both.0 (whole-told l e)))
    by false true e f = whole_passes l (both.1 (whole-told m f)) ∙ sym f
    by false false e f = e ∙ sym f
