-- The kept moves, over any kind of move that has an end and any nearness. Assumes nothing.
use mathlib.Core.Path.{◌≡◌, refl, sym, ap, ◌∙◌, subst}
use mathlib.Core.Logic.{⊎_elim}
use mathlib.Core.List.Memᴰ
use mathlib.Core.List.{List, [], ◌∷◌, ◌++◌, Memᴰ}
use mathlib.Core.Bool.{Bool, true, false}
use Prim.Native.Nat.{suc, ◌≤◌}
use native.Mathlib.Omega.{arith}
use lib.ListN.{length}
use Rattle.moves.specs.Moves.{kept, last_point}

module _ {M P : Type 0} (end : M → P) where
  pub last_point-append : (p : P) (xs ys : List M) → last_point end p (xs ++ ys) ≡ last_point end (last_point end p xs) ys
  unfolding last_point
  last_point-append p [] ys = refl
  last_point-append p (x ∷ xs) ys = last_point-append (end x) xs ys

  pub last_point-snoc : (p : P) (ks : List M) (m : M) → last_point end p (ks ++ m ∷ []) ≡ end m
  unfolding last_point
  last_point-snoc p [] m = refl
  last_point-snoc p (k ∷ ks) m = last_point-snoc (end k) ks m

  module _ (close : P → P → Bool) where
    pub kept-nil : (p : P) → kept end close p [] ≡ []
    unfolding kept
    kept-nil p = refl

    module _ (p : P) (m : M) (ms : List M) where
      pub kept_near : close p (end m) ≡ true → kept end close p (m ∷ ms) ≡ kept end close p ms
      unfolding kept
      kept_near h = subst (λ (b : Bool). elim b as (λ _. List M) [ true ↦ kept end close p ms | false ↦ m ∷ kept end close (end m) ms ] ≡ kept end close p ms) (sym h) refl

      pub kept_far : close p (end m) ≡ false → kept end close p (m ∷ ms) ≡ m ∷ kept end close (end m) ms
      unfolding kept
      kept_far h = subst (λ (b : Bool). elim b as (λ _. List M) [ true ↦ kept end close p ms | false ↦ m ∷ kept end close (end m) ms ] ≡ m ∷ kept end close (end m) ms) (sym h) refl

    pub kept-one-near : (p : P) (m : M) → close p (end m) ≡ true → kept end close p (m ∷ []) ≡ []
    kept-one-near p m h = kept_near p m [] h ∙ kept-nil p

    pub kept-one_far : (p : P) (m : M) → close p (end m) ≡ false → kept end close p (m ∷ []) ≡ m ∷ []
    kept-one_far p m h = kept_far p m [] h ∙ ap (λ (t : List M). m ∷ t) (kept-nil (end m))

    -- what is kept of two rows: the second starts where the first ends
    pub kept_append : (p : P) (xs ys : List M) → kept end close p (xs ++ ys) ≡ kept end close p xs ++ kept end close (last_point end p (kept end close p xs)) ys
    unfolding kept last_point
    kept_append p [] ys = refl
    kept_append p (x ∷ xs) ys = by (close p (end x)) refl (kept_append p xs ys) (kept_append (end x) xs ys)
      where
        by : (b : Bool) → close p (end x) ≡ b
            → kept end close p (xs ++ ys) ≡ kept end close p xs ++ kept end close (last_point end p (kept end close p xs)) ys
            → kept end close (end x) (xs ++ ys) ≡ kept end close (end x) xs ++ kept end close (last_point end (end x) (kept end close (end x) xs)) ys
            → kept end close p (x ∷ (xs ++ ys)) ≡ kept end close p (x ∷ xs) ++ kept end close (last_point end p (kept end close p (x ∷ xs))) ys
        by true h i j = simp (kept_near p x (xs ++ ys) h, kept_near p x xs h) i
        by false h i j = simp (kept_far p x (xs ++ ys) h, kept_far p x xs h) (ap (λ (t : List M). x ∷ t) j)

    pub length-kept : (p : P) (ms : List M) → length (kept end close p ms) ≤ length ms
    unfolding kept
    length-kept p [] = omega arith
    length-kept p (m ∷ ms) = by (close p (end m)) refl (length-kept p ms) (length-kept (end m) ms)
      where
        by : (b : Bool) → close p (end m) ≡ b → length (kept end close p ms) ≤ length ms → length (kept end close (end m) ms) ≤ length ms
            → length (kept end close p (m ∷ ms)) ≤ suc (length ms)
        by true h i j = rw (kept_near p m ms h) (omega arith)
        by false h i j = rw (kept_far p m ms h) (omega arith)

    -- a kept move is one of the moves
    pub kept_mem : (p : P) (ms : List M) {k : M} → Memᴰ k (kept end close p ms) → Memᴰ k ms
    unfolding kept
    kept_mem p [] h = h
    kept_mem p (m ∷ ms) {k} h = by (close p (end m)) refl (λ w. kept_mem p ms w) (λ w. kept_mem (end m) ms w) h
      where
        by : (b : Bool) → close p (end m) ≡ b → (Memᴰ k (kept end close p ms) → Memᴰ k ms) → (Memᴰ k (kept end close (end m) ms) → Memᴰ k ms)
            → Memᴰ k (kept end close p (m ∷ ms)) → Memᴰ k (m ∷ ms)
        by true n f g w = Memᴰ.tail (f (rw (kept_near p m ms n) at w))
        by false n f g w = ⊎_elim (λ q. Memᴰ.head q) (λ q. Memᴰ.tail (g q)) (Memᴰ.cases_cons (rw (kept_far p m ms n) at w))
