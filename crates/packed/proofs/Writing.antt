-- Texts that are written one after another, and rows of stores. Assumes nothing.
use mathlib.Core.Path.{◌≡◌, refl, sym, ap, ◌∙◌}
use mathlib.Core.List.{List, [], ◌∷◌, ◌++◌}
use Prim.Native.Nat.{ℕ, suc, ◌+◌, ◌≤◌}
use native.Mathlib.Nat.{add-zero, zero-add}
use native.Mathlib.Omega.{arith}
use lib.ListN.{length, set, take, drop, length-append}
use lib.Seq.{sets, sets-eq, length-sets, length-take-le, take_at}
use Rattle.io.specs.Counts.{IsPrefixLen}
use Rattle.packed.specs.declared.text.Text.{Text}
use Rattle.packed.specs.Writes.{HasRoom, Writes}

module _ {ℓ} {A : Type ℓ} where
  -- two rows, one after the other
  pub sets_append : (l : List A) (i : ℕ) (xs ys : List A) → sets l i (xs ++ ys) ≡ sets (sets l i xs) (i + length xs) ys
  sets_append l i [] ys = ap (λ k. sets l k ys) (sym (add-zero i))
  sets_append l i (x ∷ xs) ys =
      let e : suc i + length xs ≡ i + suc (length xs) = omega arith in
      sets_append (set l i x) (suc i) xs ys ∙ ap (λ k. sets (sets (set l i x) (suc i) xs) k ys) e

  -- a row at the start
  pub sets_front : (l xs : List A) → length xs ≤ length l → sets l 0 xs ≡ xs ++ drop (length xs) l
  sets_front l xs h = sets-eq xs l 0 (omega arith) ∙ ap (λ k. xs ++ drop k l) (zero-add (length xs))

-- ---- texts

pub writes_none : {t : Text} → HasRoom 0 t → Writes [] t t
writes_none h = record { bytes = refl; at = omega arith; within = omega arith; same_buffer = refl }

module _ {xs : List ℕ} {a b : Text} (w : Writes xs a b) where
  pub same_length : length b.out.now ≡ length a.out.now
  same_length = ap length w.bytes ∙ length-sets a.out.now a.at xs

  -- where room for n + m bytes was, and n at most are written, there is room for m
  pub room_left : (n m : ℕ) → length xs ≤ n → HasRoom (n + m) a → HasRoom m b
  room_left n m s h = omega (arith, same_length, w.at)

  pub writes_more : {ys : List ℕ} {c : Text} → Writes ys b c → Writes (xs ++ ys) a c
  writes_more {ys} v = record {
    bytes = v.bytes ∙ rw (w.bytes, w.at) (sym (sets_append a.out.now a.at xs ys));
    at = omega (arith, v.at, w.at, length-append xs ys);
    within = omega (arith, v.within, same_length);
    same_buffer = v.same_buffer ∙ w.same_buffer;
  }

  -- a text from the start on, and the rest as it was: how a program's whole text ends
  pub whole : {l₀ : List ℕ} {n : ℕ} → a.at ≡ 0 → a.out.now ≡ l₀ → n ≡ b.at → IsPrefixLen n b.out.now × ((n ≡ length xs) × (b.out.now ≡ xs ++ drop n l₀))
  whole {l₀} {n} z e k =
      let m : n ≡ length xs = omega (arith, w.at) in
      let h : n ≤ length b.out.now = omega (arith, w.within, same_length) in
      ((h, sym (length-take-le n b.out.now h)), (m, rw (w.bytes, z, e, m) (sets_front l₀ xs (omega (arith, w.within, ap length e)))))

  -- such a text is what stands there
  pub start : {n : ℕ} → a.at ≡ 0 → n ≡ b.at → take n b.out.now ≡ xs
  start z k =
      let t = whole z refl k in
      rw t.1.1 (take_at xs _ _ (sym t.1.0))
