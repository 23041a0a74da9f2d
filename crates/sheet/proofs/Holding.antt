-- What lent numbers hold, in either layout: a vertex or a bulge stored in them (`put-row`, `put_column`), a source copied into them list by list (`copied-rows`, `copied-columns`), and what
-- the buffers are where they hold a drawing (`held-shown`), and the other way (`laid-rows`, `laid-columns`). Assumes nothing.
use mathlib.Core.Path.{◌≡◌, refl, sym, ap, ◌∙◌}
use mathlib.Core.Bool.{Bool, true, false}
use mathlib.Core.List.{List, [], ◌∷◌, ◌++◌, map, map-append, append_assoc, append-nil}
use Prim.Native.Nat.{ℕ, zero, suc, ◌+◌, ◌*◌, ◌-◌, ◌/◌, ◌≤◌, ◌<◌, min}
use native.Mathlib.Omega.{arith}
use lib.ListN.{length, get_or, set, take, drop, replicate, length-set, length-append, length-drop, length-map}
use lib.Seq.{drop-set-lt, drop-append-le, drop-append-add, drop-drop, drop_at, drop-length, take_at}
use lib.Ieee.{Float}
use Rattle.floats.specs.Binary64 as B
use Rattle.segments.specs.declared.PlineVertex.{PlineVertex}
use Rattle.source.specs.Source.{vertices_of, columns_of, Lent, rows, columns, vertices_in}
use Rattle.source.proofs.Source.{length-vertices, length-columns, row_within, column_within}
use Rattle.moves.specs.Drawing.{Drawing}
use Rattle.sheet.specs.Buffers.{flat, xs_of, ys_of, bulges_of, padded, laid_in, shown}
use Rattle.sheet.specs.InnerSteps.{Loans, Loaned, lent, SameLoans, beyond, Held, held_by, Contents, held, fitting, making, blank, showing, put_at, bulging, bulge_at, over, over_at}
use Rattle.sheet.specs.declared.lent.Marks.{Marks}
use Rattle.sheet.proofs.Flat.{flat_append, length-flat}

pub held-made : (l : Loaned) → (held_by l).made ≡ vertices_in l.numbers
unfolding held_by
held-made l = refl

-- ---- how many vertices they hold, and the places of one

pub held-rows : (ns : List Float) (l : Loans) → length (held_by (record { numbers = rows ns; loans = l })).made ≡ length ns / 3
unfolding held_by
held-rows ns l = length-vertices ns

pub held-columns : (xs ys bs : List Float) (l : Loans) → length (held_by (record { numbers = columns xs ys bs; loans = l })).made ≡ min (min (length xs) (length ys)) (length bs)
unfolding held_by
held-columns xs ys bs l = length-columns xs ys bs

pub held-row : (ns : List Float) (l : Loans) (k : ℕ) → k < length (held_by (record { numbers = rows ns; loans = l })).made → 3 * k + 3 ≤ length ns
unfolding held_by
held-row ns l k h = row_within ns k h

pub held_column : (xs ys bs : List Float) (l : Loans) (k : ℕ) → k < length (held_by (record { numbers = columns xs ys bs; loans = l })).made → (k < length xs) × (k < length ys) × (k < length bs)
unfolding held_by
held_column xs ys bs l k h = column_within xs ys bs k h

-- ---- a vertex stored

abbrev row_set : List Float → ℕ → PlineVertex → List Float
row_set ns k v = set (set (set ns (3 * k) v.x) (3 * k + 1) v.y) (3 * k + 2) v.bulge

row-set : (ns : List Float) (k : ℕ) (v : PlineVertex) → k < length (vertices_of ns) → vertices_of (row_set ns k v) ≡ set (vertices_of ns) k v
unfolding vertices_of
row-set [] k v h = absurd (omega arith)
row-set (x ∷ []) k v h = absurd (omega arith)
row-set (x ∷ y ∷ []) k v h = absurd (omega arith)
row-set (x ∷ y ∷ b ∷ ns) zero v h = refl
row-set (x ∷ y ∷ b ∷ ns) (suc k) v h =
    let p : 3 * suc k ≡ suc (suc (suc (3 * k))) = omega arith in
    let q : 3 * suc k + 1 ≡ suc (suc (suc (3 * k + 1))) = omega arith in
    let r : 3 * suc k + 2 ≡ suc (suc (suc (3 * k + 2))) = omega arith in
    rw (r, q, p) (ap (λ (t : List PlineVertex). record { x = x; y = y; bulge = b } ∷ t) (row-set ns k v (omega arith)))

column_set : (xs ys bs : List Float) (k : ℕ) (v : PlineVertex) → columns_of (set xs k v.x) (set ys k v.y) (set bs k v.bulge) ≡ set (columns_of xs ys bs) k v
unfolding columns_of
column_set [] ys bs k v = refl
column_set (x ∷ xs) [] bs zero v = refl
column_set (x ∷ xs) [] bs (suc k) v = refl
column_set (x ∷ xs) (y ∷ ys) [] zero v = refl
column_set (x ∷ xs) (y ∷ ys) [] (suc k) v = refl
column_set (x ∷ xs) (y ∷ ys) (b ∷ bs) zero v = refl
column_set (x ∷ xs) (y ∷ ys) (b ∷ bs) (suc k) v = ap (λ (t : List PlineVertex). record { x = x; y = y; bulge = b } ∷ t) (column_set xs ys bs k v)

pub put-row : (ns : List Float) (l : Loans) (k : ℕ) (v : PlineVertex) → k < length (held_by (record { numbers = rows ns; loans = l })).made
    → held_by (record { numbers = rows (row_set ns k v); loans = l }) ≡ put_at (held_by (record { numbers = rows ns; loans = l })) k v
unfolding held_by
put-row ns l k v h =
    let n = length (vertices_of ns) in
    let e : length (set (vertices_of ns) k v) ≡ n = length-set (vertices_of ns) k v in
    rw (
      row-set ns k v h,
      e,
      drop-set-lt (3 * n) (set (set ns (3 * k) v.x) (3 * k + 1) v.y) (3 * k + 2) v.bulge (omega arith),
      drop-set-lt (3 * n) (set ns (3 * k) v.x) (3 * k + 1) v.y (omega arith),
      drop-set-lt (3 * n) ns (3 * k) v.x (omega arith),
    )

pub put_column : (xs ys bs : List Float) (l : Loans) (k : ℕ) (v : PlineVertex) → k < length (held_by (record { numbers = columns xs ys bs; loans = l })).made
    → held_by (record { numbers = columns (set xs k v.x) (set ys k v.y) (set bs k v.bulge); loans = l }) ≡ put_at (held_by (record { numbers = columns xs ys bs; loans = l })) k v
unfolding held_by
put_column xs ys bs l k v h =
    let n = length (columns_of xs ys bs) in
    let e : length (set (columns_of xs ys bs) k v) ≡ n = length-set (columns_of xs ys bs) k v in
    rw (column_set xs ys bs k v, e, drop-set-lt n xs k v.x h, drop-set-lt n ys k v.y h, drop-set-lt n bs k v.bulge h)

-- ---- a bulge stored

pub length-bulging : (k : ℕ) (b : Float) (vs : List PlineVertex) → length (bulging k b vs) ≡ length vs
unfolding bulging
length-bulging k b [] = refl
length-bulging zero b (v ∷ vs) = refl
length-bulging (suc k) b (v ∷ vs) = ap suc (length-bulging k b vs)

row-bulge : (ns : List Float) (k : ℕ) (a : Float) → vertices_of (set ns (3 * k + 2) a) ≡ bulging k a (vertices_of ns)
unfolding vertices_of bulging
row-bulge [] k a = refl
row-bulge (x ∷ []) zero a = refl
row-bulge (x ∷ []) (suc k) a = let r : 3 * suc k + 2 ≡ suc (suc (suc (3 * k + 2))) = omega arith in rw r
row-bulge (x ∷ y ∷ []) zero a = refl
row-bulge (x ∷ y ∷ []) (suc k) a = let r : 3 * suc k + 2 ≡ suc (suc (suc (3 * k + 2))) = omega arith in rw r
row-bulge (x ∷ y ∷ b ∷ ns) zero a = refl
row-bulge (x ∷ y ∷ b ∷ ns) (suc k) a =
    let r : 3 * suc k + 2 ≡ suc (suc (suc (3 * k + 2))) = omega arith in
    rw r (ap (λ (t : List PlineVertex). record { x = x; y = y; bulge = b } ∷ t) (row-bulge ns k a))

column_bulge : (xs ys bs : List Float) (k : ℕ) (a : Float) → columns_of xs ys (set bs k a) ≡ bulging k a (columns_of xs ys bs)
unfolding columns_of bulging
column_bulge [] ys bs k a = refl
column_bulge (x ∷ xs) [] bs k a = refl
column_bulge (x ∷ xs) (y ∷ ys) [] k a = refl
column_bulge (x ∷ xs) (y ∷ ys) (b ∷ bs) zero a = refl
column_bulge (x ∷ xs) (y ∷ ys) (b ∷ bs) (suc k) a = ap (λ (t : List PlineVertex). record { x = x; y = y; bulge = b } ∷ t) (column_bulge xs ys bs k a)

pub bulge-row : (ns : List Float) (l : Loans) (k : ℕ) (a : Float) → k < length (held_by (record { numbers = rows ns; loans = l })).made
    → held_by (record { numbers = rows (set ns (3 * k + 2) a); loans = l }) ≡ bulge_at (held_by (record { numbers = rows ns; loans = l })) k a
unfolding held_by
bulge-row ns l k a h =
    let n = length (vertices_of ns) in
    rw (row-bulge ns k a, length-bulging k a (vertices_of ns), drop-set-lt (3 * n) ns (3 * k + 2) a (omega arith))

pub bulge_column : (xs ys bs : List Float) (l : Loans) (k : ℕ) (a : Float) → k < length (held_by (record { numbers = columns xs ys bs; loans = l })).made
    → held_by (record { numbers = columns xs ys (set bs k a); loans = l }) ≡ bulge_at (held_by (record { numbers = columns xs ys bs; loans = l })) k a
unfolding held_by
bulge_column xs ys bs l k a h =
    let n = length (columns_of xs ys bs) in
    rw (column_bulge xs ys bs k a, length-bulging k a (columns_of xs ys bs), drop-set-lt n bs k a h)

-- ---- numbers as those of vertices and those beyond

flat-made : (vs : List PlineVertex) (ns : List Float) → vertices_of (flat vs ++ ns) ≡ vs ++ vertices_of ns
unfolding flat vertices_of
flat-made [] ns = refl
flat-made (v ∷ vs) ns = ap (λ (t : List PlineVertex). v ∷ t) (flat-made vs ns)

columns-made : (vs : List PlineVertex) (xs ys bs : List Float) → columns_of (xs_of vs ++ xs) (ys_of vs ++ ys) (bulges_of vs ++ bs) ≡ vs ++ columns_of xs ys bs
unfolding columns_of
columns-made [] xs ys bs = refl
columns-made (v ∷ vs) xs ys bs = ap (λ (t : List PlineVertex). v ∷ t) (columns-made vs xs ys bs)

-- each list is its vertices' numbers and those beyond
row-split : (ns : List Float) → flat (vertices_of ns) ++ drop (3 * length (vertices_of ns)) ns ≡ ns
unfolding flat vertices_of
row-split [] = refl
row-split (x ∷ []) = refl
row-split (x ∷ y ∷ []) = refl
row-split (x ∷ y ∷ b ∷ ns) =
    let r : 3 * suc (length (vertices_of ns)) ≡ suc (suc (suc (3 * length (vertices_of ns)))) = omega arith in
    rw r (ap (λ (t : List Float). x ∷ y ∷ b ∷ t) (row-split ns))

pub record ColumnsSplit (xs ys bs : List Float) : Type 0 where
  pub x : xs_of (columns_of xs ys bs) ++ drop (length (columns_of xs ys bs)) xs ≡ xs
  pub y : ys_of (columns_of xs ys bs) ++ drop (length (columns_of xs ys bs)) ys ≡ ys
  pub bulge : bulges_of (columns_of xs ys bs) ++ drop (length (columns_of xs ys bs)) bs ≡ bs

columns-split : (xs ys bs : List Float) → ColumnsSplit xs ys bs
unfolding columns_of
columns-split [] ys bs = record { x = refl; y = refl; bulge = refl }
columns-split (x ∷ xs) [] bs = record { x = refl; y = refl; bulge = refl }
columns-split (x ∷ xs) (y ∷ ys) [] = record { x = refl; y = refl; bulge = refl }
columns-split (x ∷ xs) (y ∷ ys) (b ∷ bs) =
    let s = columns-split xs ys bs in
    record { x = ap (λ (t : List Float). x ∷ t) s.x; y = ap (λ (t : List Float). y ∷ t) s.y; bulge = ap (λ (t : List Float). b ∷ t) s.bulge }

rows_drop : (k : ℕ) (ns : List Float) → vertices_of (drop (3 * k) ns) ≡ drop k (vertices_of ns)
unfolding vertices_of
rows_drop zero ns = refl
rows_drop (suc k) [] = let r : 3 * suc k ≡ suc (suc (suc (3 * k))) = omega arith in rw r
rows_drop (suc k) (x ∷ []) = let r : 3 * suc k ≡ suc (suc (suc (3 * k))) = omega arith in rw r
rows_drop (suc k) (x ∷ y ∷ []) = let r : 3 * suc k ≡ suc (suc (suc (3 * k))) = omega arith in rw r
rows_drop (suc k) (x ∷ y ∷ b ∷ ns) = let r : 3 * suc k ≡ suc (suc (suc (3 * k))) = omega arith in rw r (rows_drop k ns)

columns-drop : (k : ℕ) (xs ys bs : List Float) → columns_of (drop k xs) (drop k ys) (drop k bs) ≡ drop k (columns_of xs ys bs)
unfolding columns_of
columns-drop zero xs ys bs = refl
columns-drop (suc k) [] ys bs = refl
columns-drop (suc k) (x ∷ xs) [] bs = none (drop k xs) (drop (suc k) bs)
  where
    none : (ss us : List Float) → columns_of ss [] us ≡ []
    none [] us = refl
    none (s ∷ ss) us = refl
columns-drop (suc k) (x ∷ xs) (y ∷ ys) [] = none (drop k xs) (drop k ys)
  where
    none : (ss ts : List Float) → columns_of ss ts [] ≡ []
    none [] ts = refl
    none (s ∷ ss) [] = refl
    none (s ∷ ss) (t ∷ ts) = refl
columns-drop (suc k) (x ∷ xs) (y ∷ ys) (b ∷ bs) = columns-drop k xs ys bs

-- ---- a source copied list by list

module _ {A : Type 0} where
  -- past what was written over a list it is the same
  past : (p o : List A) (n m : ℕ) → length p ≡ n → n ≤ m → drop m (p ++ drop n o) ≡ drop m o
  past p o n m e h =
      let i : m ≡ length p + (m - n) = omega arith in
      let j : n + (m - n) ≡ m = omega arith in
      ap (λ (k : ℕ). drop k (p ++ drop n o)) i ∙ drop-append-add p (drop n o) (m - n) ∙ drop-drop (m - n) n o ∙ ap (λ (k : ℕ). drop k o) j

  -- what is written over a list, by its front
  over-front : (s o p : List A) (n : ℕ) → take n s ≡ p → length p ≡ n → over (take n s) o ≡ p ++ drop n o
  over-front s o p n e l = rw (e, l)

length_over : (vs ws : List PlineVertex) → length vs ≤ length ws → length (over vs ws) ≡ length ws
length_over vs ws h = omega (arith, length-append vs (drop (length vs) ws), length-drop (length vs) ws)

pub copied-rows : (ns o : List Float) (l : Loans) → length (vertices_of ns) ≤ length (held_by (record { numbers = rows o; loans = l })).made
    → held_by (record { numbers = rows (over (take (3 * length (vertices_of ns)) ns) o); loans = l }) ≡ over_at (vertices_of ns) (held_by (record { numbers = rows o; loans = l }))
unfolding held_by
copied-rows ns o l h =
    let vs = vertices_of ns in
    let n = 3 * length vs in
    let front : take n ns ≡ flat vs = ap (take n) (sym (row-split ns)) ∙ take_at (flat vs) (drop n ns) n (length-flat vs) in
    let made : vertices_of (flat vs ++ drop n o) ≡ over vs (vertices_of o) = flat-made vs (drop n o) ∙ rw (rows_drop (length vs) o) in
    rw (over-front ns o (flat vs) n front (length-flat vs), made, length_over vs (vertices_of o) h, past (flat vs) o n (3 * length (vertices_of o)) (length-flat vs) (omega arith))

-- one of three columns
column_front : (f : PlineVertex → Float) (vs : List PlineVertex) (s r : List Float) → map f vs ++ r ≡ s → (take (length vs) s ≡ map f vs) × (length (map f vs) ≡ length vs)
column_front f vs s r e = (ap (take (length vs)) (sym e) ∙ take_at (map f vs) r (length vs) (length-map vs f), length-map vs f)

pub copied-columns : (xs ys bs ox oy ob : List Float) (l : Loans) → length (columns_of xs ys bs) ≤ length (held_by (record { numbers = columns ox oy ob; loans = l })).made
    → let n = length (columns_of xs ys bs) in
    held_by (record { numbers = columns (over (take n xs) ox) (over (take n ys) oy) (over (take n bs) ob); loans = l }) ≡ over_at (columns_of xs ys bs) (held_by (record { numbers = columns ox oy ob; loans = l }))
unfolding held_by
copied-columns xs ys bs ox oy ob l h =
    let vs = columns_of xs ys bs in
    let n = length vs in
    let s = columns-split xs ys bs in
    let a = column_front (λ (v : PlineVertex). v.x) vs xs (drop n xs) s.x in
    let b = column_front (λ (v : PlineVertex). v.y) vs ys (drop n ys) s.y in
    let c = column_front (λ (v : PlineVertex). v.bulge) vs bs (drop n bs) s.bulge in
    let made : columns_of (xs_of vs ++ drop n ox) (ys_of vs ++ drop n oy) (bulges_of vs ++ drop n ob) ≡ over vs (columns_of ox oy ob) = columns-made vs (drop n ox) (drop n oy) (drop n ob) ∙ rw (columns-drop n ox oy ob) in
    rw (
      over-front xs ox (xs_of vs) n a.0 a.1,
      over-front ys oy (ys_of vs) n b.0 b.1,
      over-front bs ob (bulges_of vs) n c.0 c.1,
      made,
      length_over vs (columns_of ox oy ob) h,
      past (xs_of vs) ox n (length (columns_of ox oy ob)) a.1 h,
      past (ys_of vs) oy n (length (columns_of ox oy ob)) b.1 h,
      past (bulges_of vs) ob n (length (columns_of ox oy ob)) c.1 h,
    )

-- ---- a drawing in the first places

-- the numbers that hold so
abbrev joined_by : List PlineVertex → List (List Float) → Lent
joined_by vs [] = rows []
joined_by vs (r ∷ []) = rows (flat vs ++ r)
joined_by vs (x ∷ y ∷ []) = rows []
joined_by vs (x ∷ y ∷ b ∷ rs) = columns (xs_of vs ++ x) (ys_of vs ++ y) (bulges_of vs ++ b)

abbrev joined : Held → Lent
joined h = joined_by h.made h.beyond

joined-numbers : (l : Lent) → joined_by (vertices_in l) (beyond l) ≡ l
joined-numbers (rows ns) = ap rows (row-split ns)
joined-numbers (columns xs ys bs) = let s = columns-split xs ys bs in rw (s.x, s.y, s.bulge)

joined-held : (l : Loaned) → joined (held_by l) ≡ l.numbers
unfolding held_by
joined-held l = joined-numbers l.numbers

-- what is held tells what is lent
held_tells : (a b : Loaned) → held_by a ≡ held_by b → a ≡ b
held_tells a b e =
    let n : a.numbers ≡ b.numbers = sym (joined-held a) ∙ ap joined e ∙ joined-held b in
    let m : a.loans ≡ b.loans = unfold held_by in ap (λ (h : Held). h.loans) e in
    rw (n, m)

-- the other way: numbers that hold a copy are the copy, list by list
pub rows-copied : (ns o : List Float) (l : Loaned) (k : Loans) → length (vertices_of ns) ≤ length (held_by (record { numbers = rows o; loans = k })).made
    → held_by l ≡ over_at (vertices_of ns) (held_by (record { numbers = rows o; loans = k })) → l ≡ record { numbers = rows (over (take (3 * length (vertices_of ns)) ns) o); loans = k }
rows-copied ns o l k h e = held_tells l _ (e ∙ sym (copied-rows ns o k h))

pub columns-copied : (xs ys bs ox oy ob : List Float) (l : Loaned) (k : Loans) → length (columns_of xs ys bs) ≤ length (held_by (record { numbers = columns ox oy ob; loans = k })).made
    → held_by l ≡ over_at (columns_of xs ys bs) (held_by (record { numbers = columns ox oy ob; loans = k }))
    → let n = length (columns_of xs ys bs) in l ≡ record { numbers = columns (over (take n xs) ox) (over (take n ys) oy) (over (take n bs) ob); loans = k }
columns-copied xs ys bs ox oy ob l k h e = held_tells l _ (e ∙ sym (copied-columns xs ys bs ox oy ob k h))

flat-blank : (n : ℕ) → flat (replicate n blank) ≡ replicate (3 * n) B.zero
unfolding flat
flat-blank zero = refl
flat-blank (suc n) = let r : 3 * suc n ≡ suc (suc (suc (3 * n))) = omega arith in rw r (ap (λ (t : List Float). B.zero ∷ B.zero ∷ B.zero ∷ t) (flat-blank n))

flat-drop : (k : ℕ) (vs : List PlineVertex) → flat (drop k vs) ≡ drop (3 * k) (flat vs)
unfolding flat
flat-drop zero vs = refl
flat-drop (suc k) [] = let r : 3 * suc k ≡ suc (suc (suc (3 * k))) = omega arith in rw r
flat-drop (suc k) (v ∷ vs) = let r : 3 * suc k ≡ suc (suc (suc (3 * k))) = omega arith in rw r (flat-drop k vs)

map-drop : (f : PlineVertex → Float) (k : ℕ) (vs : List PlineVertex) → map f (drop k vs) ≡ drop k (map f vs)
map-drop f zero vs = refl
map-drop f (suc k) [] = refl
map-drop f (suc k) (v ∷ vs) = map-drop f k vs

map-blank : (f : PlineVertex → Float) → f blank ≡ B.zero → (n : ℕ) → map f (replicate n blank) ≡ replicate n B.zero
map-blank f z zero = refl
map-blank f z (suc n) = rw z (ap (λ (t : List Float). B.zero ∷ t) (map-blank f z n))

module _ (room : ℕ) (vs ws : List PlineVertex) (fits : room ≤ length ws) where
  row-padded : (r : List Float) → flat (padded blank room vs ws) ++ r ≡ padded B.zero (3 * room) (flat vs) (flat ws ++ r)
  row-padded r =
      let l = length-flat vs in
      let e : 3 * (room - length vs) ≡ 3 * room - length (flat vs) = omega arith in
      simp flat_append (rw (flat-blank, flat-drop, e, drop-append-le (3 * room) (flat ws) r (omega (arith, length-flat ws))) (simp append_assoc))

  column_padded : (f : PlineVertex → Float) → f blank ≡ B.zero → (r : List Float) → map f (padded blank room vs ws) ++ r ≡ padded B.zero room (map f vs) (map f ws ++ r)
  column_padded f z r =
      simp map-append (rw (map-blank f z, map-drop, length-map vs f, drop-append-le room (map f ws) r (omega (arith, length-map ws f))) (simp append_assoc))

padded-numbers : (room : ℕ) (vs : List PlineVertex) (l : Lent) → room ≤ length (vertices_in l) → joined_by (padded blank room vs (vertices_in l)) (beyond l) ≡ laid_in room vs l
padded-numbers room vs (rows ns) fits =
    ap rows (row-padded room vs (vertices_of ns) fits (drop (3 * length (vertices_of ns)) ns) ∙ ap (padded B.zero (3 * room) (flat vs)) (row-split ns))
padded-numbers room vs (columns xs ys bs) fits =
    let n = length (columns_of xs ys bs) in
    let s = columns-split xs ys bs in
    let a = column_padded room vs (columns_of xs ys bs) fits (λ (v : PlineVertex). v.x) refl (drop n xs) in
    let b = column_padded room vs (columns_of xs ys bs) fits (λ (v : PlineVertex). v.y) refl (drop n ys) in
    let c = column_padded room vs (columns_of xs ys bs) fits (λ (v : PlineVertex). v.bulge) refl (drop n bs) in
    rw (a, b, c, s.x, s.y, s.bulge)

-- of any vertices and numbers beyond, in columns or not
abbrev joined_in : Bool → Held → Lent
joined_in true h = columns (xs_of h.made ++ get_or h.beyond 0 []) (ys_of h.made ++ get_or h.beyond 1 []) (bulges_of h.made ++ get_or h.beyond 2 [])
joined_in false h = rows (flat h.made ++ get_or h.beyond 0 [])

joined-padded : (c : Bool) (room : ℕ) (vs : List PlineVertex) (h : Held) → room ≤ length h.made → joined_in c (making (padded blank room vs h.made) h) ≡ laid_in room vs (joined_in c h)
joined-padded true room vs h fits =
    let a = column_padded room vs h.made fits (λ (v : PlineVertex). v.x) refl (get_or h.beyond 0 []) in
    let b = column_padded room vs h.made fits (λ (v : PlineVertex). v.y) refl (get_or h.beyond 1 []) in
    let c = column_padded room vs h.made fits (λ (v : PlineVertex). v.bulge) refl (get_or h.beyond 2 []) in
    rw (a, b, c)
joined-padded false room vs h fits = ap rows (row-padded room vs h.made fits (get_or h.beyond 0 []))

pub lent-shown : (l l' : Loaned) (room : ℕ) (vs : List PlineVertex) → room ≤ length (held_by l).made
    → held_by l' ≡ making (padded blank room vs (held_by l).made) (held_by l) → l'.numbers ≡ laid_in room vs l.numbers
unfolding held_by
lent-shown l l' room vs fits e = sym (joined-held l') ∙ ap joined e ∙ padded-numbers room vs l.numbers fits

-- buffers that hold a drawing so are those in which it is shown
pub held-shown : (l l' : Loaned) (m m' : Marks) (room : ℕ) (d : Drawing) → room ≤ fitting (held l m) → held l' m' ≡ showing room d (held l m)
    → lent l' m' ≡ shown room d (lent l m)
unfolding showing shown
held-shown l l' m m' room d fits e =
    let v = lent-shown l l' room d.vertices fits (ap (λ (b : Contents). b.vertices) e) in
    let flags = ap (λ (b : Contents). b.flags) e in
    let indexes = ap (λ (b : Contents). b.indexes) e in
    let origins = ap (λ (b : Contents). b.origins) e in
    rw (v, flags, indexes, origins)

-- and they are lent by the same references
pub held_same : (l l' : Loaned) (m m' : Marks) (room : ℕ) (d : Drawing) → held l' m' ≡ showing room d (held l m) → SameLoans l m l' m'
unfolding showing held_by
held_same l l' m m' room d e = record { vertices = ap (λ (b : Contents). b.vertices.loans) e; marks = ap (λ (b : Contents). b.loans) e }

-- lists in which vertices are laid hold them, and the same numbers beyond

pub record LaidRows (room : ℕ) (vs : List PlineVertex) (ns : List Float) : Type 0 where
  pub made : vertices_of (padded B.zero (3 * room) (flat vs) ns) ≡ padded blank room vs (vertices_of ns)
  pub beyond : drop (3 * length (vertices_of (padded B.zero (3 * room) (flat vs) ns))) (padded B.zero (3 * room) (flat vs) ns) ≡ drop (3 * length (vertices_of ns)) ns

pub laid-rows : (room : ℕ) (vs : List PlineVertex) (ns : List Float) → room ≤ length (vertices_of ns) → LaidRows room vs ns
laid-rows room vs ns fits =
    let ws = vertices_of ns in
    let us = padded blank room vs ws in
    let r = drop (3 * length ws) ns in
    let e : padded B.zero (3 * room) (flat vs) ns ≡ flat us ++ r = ap (padded B.zero (3 * room) (flat vs)) (sym (row-split ns)) ∙ sym (row-padded room vs ws fits r) in
    let none : vertices_of r ≡ [] = rows_drop (length ws) ns ∙ drop-length ws in
    let made : vertices_of (flat us ++ r) ≡ us = flat-made us r ∙ rw none (append-nil us) in
    record { made = rw (e, made); beyond = rw (e, made) (drop_at (flat us) r (3 * length us) (length-flat us)) }

pub record LaidColumns (room : ℕ) (vs : List PlineVertex) (xs ys bs xs' ys' bs' : List Float) : Type 0 where
  pub made : columns_of xs' ys' bs' ≡ padded blank room vs (columns_of xs ys bs)
  pub x : drop (length (columns_of xs' ys' bs')) xs' ≡ drop (length (columns_of xs ys bs)) xs
  pub y : drop (length (columns_of xs' ys' bs')) ys' ≡ drop (length (columns_of xs ys bs)) ys
  pub bulge : drop (length (columns_of xs' ys' bs')) bs' ≡ drop (length (columns_of xs ys bs)) bs

pub laid-columns : (room : ℕ) (vs : List PlineVertex) (xs ys bs : List Float) → room ≤ length (columns_of xs ys bs)
    → LaidColumns room vs xs ys bs (padded B.zero room (xs_of vs) xs) (padded B.zero room (ys_of vs) ys) (padded B.zero room (bulges_of vs) bs)
laid-columns room vs xs ys bs fits =
    let ws = columns_of xs ys bs in
    let us = padded blank room vs ws in
    let n = length ws in
    let s = columns-split xs ys bs in
    let a : padded B.zero room (xs_of vs) xs ≡ xs_of us ++ drop n xs = ap (padded B.zero room (xs_of vs)) (sym s.x) ∙ sym (column_padded room vs ws fits (λ (v : PlineVertex). v.x) refl (drop n xs)) in
    let b : padded B.zero room (ys_of vs) ys ≡ ys_of us ++ drop n ys = ap (padded B.zero room (ys_of vs)) (sym s.y) ∙ sym (column_padded room vs ws fits (λ (v : PlineVertex). v.y) refl (drop n ys)) in
    let c : padded B.zero room (bulges_of vs) bs ≡ bulges_of us ++ drop n bs = ap (padded B.zero room (bulges_of vs)) (sym s.bulge) ∙ sym (column_padded room vs ws fits (λ (v : PlineVertex). v.bulge) refl (drop n bs)) in
    let none : columns_of (drop n xs) (drop n ys) (drop n bs) ≡ [] = columns-drop n xs ys bs ∙ drop-length ws in
    let made : columns_of (xs_of us ++ drop n xs) (ys_of us ++ drop n ys) (bulges_of us ++ drop n bs) ≡ us = columns-made us (drop n xs) (drop n ys) (drop n bs) ∙ rw none (append-nil us) in
    record {
      made = rw (a, b, c, made);
      x = rw (a, b, c, made) (drop_at (xs_of us) (drop n xs) (length us) (length-map us _));
      y = rw (a, b, c, made) (drop_at (ys_of us) (drop n ys) (length us) (length-map us _));
      bulge = rw (a, b, c, made) (drop_at (bulges_of us) (drop n bs) (length us) (length-map us _));
    }
