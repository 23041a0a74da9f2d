-- Which entries a list has, and that they rise. Assumes nothing.
use mathlib.Core.Path.{◌≡◌, refl, sym, subst}
use mathlib.Core.Logic.{◌⊎◌, inl, inr, ⊎_elim}
use mathlib.Core.List.{List, [], ◌∷◌, ◌++◌, map, append-nil, Memᴰ}
use mathlib.Core.Bool.{true, false}
use Prim.Native.Nat.{ℕ, zero, suc, ◌≤◌, ◌<◌}
use native.Mathlib.Omega.{arith}
use borrow.Author.Tests.{ltb-true, ltb-false}
use lib.Dec.{ltb}
use Rattle.refusals.proofs.First.{by_test}
use Rattle.moves.specs.Choice.{Rising}
use Rattle.moves.specs.Choice.Rising.{none, next}
use Rattle.segments.specs.declared.PlineVertex.{PlineVertex}
use Rattle.compare.specs.declared.Fields.{Fields}
use Rattle.compare.specs.Compare.{Entry, any_of, entries_for, fields_at, entries_to, number_in}
use Rattle.compare.proofs.Entries.{one_entry, no-entry}

-- ---- members

module _ {A : Type 0} where
  in_left : {x : A} {xs : List A} (ys : List A) → Memᴰ x xs → Memᴰ x (xs ++ ys)
  in_left ys (mathlib.Core.List.Memᴰ.head p) = mathlib.Core.List.Memᴰ.head p
  in_left ys (mathlib.Core.List.Memᴰ.tail m) = mathlib.Core.List.Memᴰ.tail (in_left ys m)

  in_right : {x : A} (xs : List A) {ys : List A} → Memᴰ x ys → Memᴰ x (xs ++ ys)
  in_right [] m = m
  in_right (y ∷ xs) m = mathlib.Core.List.Memᴰ.tail (in_right xs m)

  in_either : {x : A} (xs : List A) {ys : List A} → Memᴰ x (xs ++ ys) → Memᴰ x xs ⊎ Memᴰ x ys
  in_either [] m = inr m
  in_either (y ∷ xs) (mathlib.Core.List.Memᴰ.head p) = inl (mathlib.Core.List.Memᴰ.head p)
  in_either (y ∷ xs) (mathlib.Core.List.Memᴰ.tail m) = ⊎_elim (λ l. inl (mathlib.Core.List.Memᴰ.tail l)) inr (in_either xs m)

abbrev entry : ℕ → Fields → Entry
entry k f = record { number = k; fields = f }

only_one : {A : Type 0} {x y : A} → Memᴰ x (y ∷ []) → x ≡ y
only_one (mathlib.Core.List.Memᴰ.head p) = p
only_one (mathlib.Core.List.Memᴰ.tail m) = absurd (mathlib.Core.List.Memᴰ.not-nil m)

-- ---- the entries of a vertex, and of all

for_it : (k : ℕ) (f : Fields) → any_of f ≡ true → Memᴰ (entry k f) (entries_for k f)
for_it k f h = subst (λ (es : List Entry). Memᴰ (entry k f) es) (one_entry k f h) (mathlib.Core.List.Memᴰ.head refl)

it_alone : (k : ℕ) (f : Fields) (e : Entry) → Memᴰ e (entries_for k f) → (e ≡ entry k f) × (any_of f ≡ true)
it_alone k f e m =
    by_test (any_of f) (λ (t : any_of f ≡ true). (only_one (subst (λ (es : List Entry). Memᴰ e es) (sym (one_entry k f t)) m), t))
    (λ (t : any_of f ≡ false). absurd (mathlib.Core.List.Memᴰ.not-nil (subst (λ (es : List Entry). Memᴰ e es) (sym (no-entry k f t)) m)))

module _ (vs : List PlineVertex) (fs : List ℕ) (ws : List PlineVertex) (gs : List ℕ) where
  abbrev at : ℕ → Fields
  at k = fields_at vs fs ws gs k

  -- an entry of the first n vertices: it is of one of them, with what differs there, and something does
  pub record Of (n : ℕ) (e : Entry) : Type 0 where
    pub below : e.number < n
    pub is : e.fields ≡ at e.number
    pub some : any_of e.fields ≡ true

  pub listed_of : (n : ℕ) (e : Entry) → Memᴰ e (entries_to vs fs ws gs n) → Of n e
  unfolding entries_to
  listed_of zero e m = absurd (mathlib.Core.List.Memᴰ.not-nil m)
  listed_of (suc n) e m =
      ⊎_elim (λ (l : Memᴰ e (entries_to vs fs ws gs n)). let o = listed_of n e l in record { below = omega (arith, o.below); is = o.is; some = o.some })
      (λ (l : Memᴰ e (entries_for n (at n))).
      let o = it_alone n (at n) e l in
      subst (λ (d : Entry). Of (suc n) d) (sym o.0) (record { below = omega arith; is = refl; some = o.1 }))
      (in_either (entries_to vs fs ws gs n) m)

  pub of-listed : (n k : ℕ) → k < n → any_of (at k) ≡ true → Memᴰ (entry k (at k)) (entries_to vs fs ws gs n)
  unfolding entries_to
  of-listed zero k l h = absurd (omega arith)
  of-listed (suc n) k l h =
      by_test (ltb k n) (λ (t : ltb k n ≡ true). in_left (entries_for n (at n)) (of-listed n k (ltb-true k n t) h))
      (λ (t : ltb k n ≡ false).
      let is : n ≡ k = omega (arith, ltb-false k n t) in
      in_right (entries_to vs fs ws gs n) (subst (λ (j : ℕ). Memᴰ (entry k (at k)) (entries_for j (at j))) (sym is) (for_it k (at k) h)))

-- ---- in rising order

-- a number more, above all before it
above : (m k : ℕ) (es : List Entry) → Rising m (map number_in es) → ((e : Entry) → Memᴰ e es → e.number < k) → m ≤ k → (d : Entry) → d.number ≡ k → Rising m (map number_in (es ++ d ∷ []))
above m k [] r h l d p = let g : m ≤ d.number = omega arith in next g none
above m k (e ∷ es) (next q r) h l d p = next q (above (suc e.number) k es r (λ e' i. h e' (mathlib.Core.List.Memᴰ.tail i)) (h e (mathlib.Core.List.Memᴰ.head refl)) d p)

module _ (vs : List PlineVertex) (fs : List ℕ) (ws : List PlineVertex) (gs : List ℕ) where
  pub entries_rise : (n : ℕ) → Rising 0 (map number_in (entries_to vs fs ws gs n))
  unfolding entries_to
  entries_rise zero = none
  entries_rise (suc n) =
      let so_far = entries_rise n in
      by_test (any_of (at vs fs ws gs n))
      (λ (t : any_of (at vs fs ws gs n) ≡ true).
      subst (λ (es : List Entry). Rising 0 (map number_in (entries_to vs fs ws gs n ++ es))) (one_entry n (at vs fs ws gs n) t)
      (above 0 n (entries_to vs fs ws gs n) so_far (λ e m. (listed_of vs fs ws gs n e m).below) (omega arith) _ refl))
      (λ (t : any_of (at vs fs ws gs n) ≡ false).
      subst (λ (es : List Entry). Rising 0 (map number_in (entries_to vs fs ws gs n ++ es))) (no-entry n (at vs fs ws gs n) t)
      (rw (append-nil (entries_to vs fs ws gs n)) so_far))
