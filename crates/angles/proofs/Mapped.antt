-- Arrays that are made element by element, as lists. Assumes nothing.
use mathlib.Core.Path.{◌≡◌, refl, ◌∙◌, sym, subst}
use mathlib.Core.List.{List, [], ◌∷◌}
use mathlib.Core.Logic.{inl, inr}
use Prim.Native.Nat.{ℕ, zero, suc, ◌+◌, ◌≤◌, ◌<◌}
use native.Mathlib.Omega.{arith}
use denote.Param.Members.{Mut, Called}
use Rattle.std.specs.Prelude.{map}
use Rattle.std.specs.Array.{IsMapOf, IsElementAt, IsFromFnResult, IsFromFnResultFrom}
use Rattle.std.proofs.Math.Nat.{eq-or-lt_of_le}
use Rattle.std.proofs.Math.ListN.{length, length-map, get_or}
use Rattle.std.proofs.lemmas.List.{map-id, get_or-map, ext_get_or}

-- `map`: what each call gave, read by v, is h of the element
pub mapped :
    {F A B C : Type 0} {g : Mut F (A × Unit {0}) B} {f : F} {xs : List A} {ys : List B} {n : ℕ} (v : B → C) (h : A → C) →
    length xs ≡ n →
    IsMapOf g f xs ys n →
    ((p q : F) (x : A) (y : B) → Called g p (x, tt) y q → v y ≡ h x) →
    map v ys ≡ map h xs
mapped {xs = []} {ys = []} v h e m calls = refl
mapped {xs = []} {ys = y ∷ ys} v h e m calls = absurd (omega (arith, m.long))
mapped {xs = x ∷ xs} {ys = []} v h e m calls = absurd (omega (arith, m.long))
mapped {xs = x ∷ xs} {ys = y ∷ ys} v h e m calls =
    ext_get_or (h x) (map v (y ∷ ys)) (map h (x ∷ xs)) (simp length-map (omega (arith, m.long)))
    (λ i within. let below : i < length (y ∷ ys) = simp length-map at within in
    let called = m.at i x y (omega (arith, m.long)) in
    get_or-map v (y ∷ ys) i y (h x) below
    ∙ calls called.0 called.1 _ _ called.2
    ∙ sym (get_or-map h (x ∷ xs) i x (h x) (omega (arith, m.long))))

-- what each call gave is h of the element
pub mapped_to :
    {F A B : Type 0} {g : Mut F (A × Unit {0}) B} {f : F} {xs : List A} {ys : List B} {n : ℕ} (h : A → B) →
    length xs ≡ n →
    IsMapOf g f xs ys n →
    ((p q : F) (x : A) (y : B) → Called g p (x, tt) y q → y ≡ h x) →
    ys ≡ map h xs
mapped_to {B = B} {ys = ys} h e m calls = sym (map-id ys) ∙ mapped (λ (y : B). y) h e m calls

-- `from_fn`, of a function that no call changes: what it gave at k
given :
    {F B : Type 0} {g : Mut F (ℕ × Unit {0}) B} (f : F) (ys : List B) (i n k : ℕ) →
    ((p q : F) (j : ℕ) (y : B) → Called g p (j, tt) y q → q ≡ p) →
    IsFromFnResultFrom g f ys i n →
    i ≤ k →
    k < i + n →
    (y : B) × IsElementAt ys k y × Called g f (k, tt) y f
given f ys i zero k stays made from below = absurd (omega arith)
given {F} {B} {g} f ys i (suc n) k stays (q, y, at, called, rest) from below =
    let same = stays f q i y called in
    elim (eq-or-lt_of_le from) as (λ _. (y' : B) × IsElementAt ys k y' × Called g f (k, tt) y' f) [
      | inl here ↦ subst (λ (m : ℕ). (y' : B) × IsElementAt ys m y' × Called g f (m, tt) y' f) here (y, at, subst (λ (z : F). Called g f (i, tt) y z) same called)
      | inr later ↦ given f ys (i + 1) n k stays (subst (λ (z : F). IsFromFnResultFrom g z ys (i + 1) n) same rest) (omega arith) (omega arith)
    ]

-- what the call at each index gave is h of the element there
pub filled :
    {F A B : Type 0} {g : Mut F (ℕ × Unit {0}) B} {f : F} (xs : List A) {ys : List B} {n : ℕ} (d : A) (h : A → B) →
    length xs ≡ n →
    IsFromFnResult g f ys n →
    ((p q : F) (i : ℕ) (y : B) → Called g p (i, tt) y q → q ≡ p) →
    ((i : ℕ) (y : B) → i < length xs → Called g f (i, tt) y f → y ≡ h (get_or xs i d)) →
    ys ≡ map h xs
filled {f = f} xs {ys = ys} {n = n} d h e m stays calls =
    ext_get_or (h d) ys (map h xs) (simp length-map (omega (arith, m.long)))
    (λ i within. let inside : i < length xs = omega (arith, m.long) in
    let called = given f ys 0 n i stays m.each (omega arith) (omega arith) in
    called.1.1 (h d)
    ∙ calls i called.0 inside called.2
    ∙ sym (get_or-map h xs i d (h d) inside))
