-- A loop that writes the values of a list one after the other: places cleared, and numbers copied. Assumes nothing.
use mathlib.Core.Path.{◌≡◌, refl, sym, ap, ◌∙◌}
use mathlib.Core.List.{List, [], ◌++◌, append-nil, append_assoc}
use Prim.Native.Nat.{ℕ, ◌+◌, ◌<◌, ◌≤◌}
use native.Mathlib.Nat.{zero-add}
use native.Mathlib.Numerals.{add-one}
use native.Mathlib.Omega.{arith}
use lib.ListN.{length, get_or, set, take, drop, replicate, length-set, length-replicate, get_or-replicate}
use lib.Seq.{drop-length, drop-drop, paste, paste-zero, paste-suc, take_all}
use Rattle.segments.specs.declared.PlineVertex.{PlineVertex}
use Rattle.sheet.specs.InnerSteps.{Held, making, put_at, over, cleared}

-- `count` values vs, written over l₀ from `from` on: what holds of the list l after j turns
pub record Writing {A : Type 0} (vs : List A) (from count : ℕ) (l₀ : List A) (j : ℕ) (l : List A) : Type 0 where
  pub within : j ≤ count
  pub long : length l ≡ length l₀
  pub so_far : l ≡ paste l₀ from vs j

module _ {A : Type 0} {vs : List A} {from count : ℕ} {l₀ : List A} where
  pub writing_none : Writing vs from count l₀ 0 l₀
  writing_none = record { within = omega arith; long = refl; so_far = paste-zero l₀ from vs }

  writing_turn : {l : List A} {j : ℕ} (d : A) → Writing vs from count l₀ j l → j < count → count ≡ length vs → from + count ≤ length l₀
      → Writing vs from count l₀ (j + 1) (set l (from + j) (get_or vs j d))
  writing_turn {l} {j} d w t n r = record {
    within = omega arith;
    long = length-set l (from + j) (get_or vs j d) ∙ w.long;
    so_far = rw (w.so_far, add-one) (paste-suc l₀ from vs j d (omega arith) (omega arith));
  }

  writing_done : {l : List A} {j : ℕ} → Writing vs from count l₀ j l → count ≤ j → count ≡ length vs → l ≡ take from l₀ ++ vs ++ drop (from + count) l₀
  writing_done {l} {j} w d n =
      let e : j ≡ count = omega arith in
      w.so_far ∙ rw (e, take_all count vs (omega arith))

-- one value in all places
abbrev pub Clearing : {A : Type 0} → A → ℕ → ℕ → List A → ℕ → List A → Type 0
Clearing z from count l₀ j l = Writing (replicate count z) from count l₀ j l

module _ {A : Type 0} (z : A) {from count : ℕ} {l₀ l : List A} {j : ℕ} where
  pub clearing_turn : Clearing z from count l₀ j l → j < count → from + count ≤ length l₀ → Clearing z from count l₀ (j + 1) (set l (from + j) z)
  clearing_turn w t r = rw (get_or-replicate count j z z t) at (writing_turn z w t (sym (length-replicate count z)) r)

  pub clearing_done : Clearing z from count l₀ j l → count ≤ j → l ≡ cleared z from count l₀
  clearing_done w d = writing_done w d (sym (length-replicate count z))

-- all places of a part of a list
pub cleared_part : {A : Type 0} (z : A) (from n : ℕ) (l part part' : List A) → part' ≡ cleared z 0 n part → n ≡ length part → take from l ++ (part' ++ drop n (drop from l)) ≡ cleared z from n l
cleared_part z from n l part part' e k =
    let none : drop (0 + n) part ≡ [] = rw (zero-add, k) (drop-length part) in
    let whole : part' ≡ replicate n z = e ∙ rw none (append-nil (replicate n z)) in
    rw (whole, drop-drop n from l) (sym (append_assoc (take from l) (replicate n z) (drop (from + n) l)))

-- a list, over the front of another
module _ {A : Type 0} {s l₀ l : List A} {count i : ℕ} where
  pub copying_turn : (d : A) → Writing s 0 count l₀ i l → i < count → count ≡ length s → count ≤ length l₀ → Writing s 0 count l₀ (i + 1) (set l i (get_or s i d))
  copying_turn d w t n r = rw zero-add at (writing_turn d w t n (omega arith))

  pub copying_done : Writing s 0 count l₀ i l → count ≤ i → count ≡ length s → l ≡ over s l₀
  copying_done w d n = writing_done w d n ∙ rw (zero-add, n)

-- ---- vertices, by what is held with them
-- what holds of them after j turns: `count` vertices vs are put from `from` on, and nothing else changes
pub record Putting (vs : List PlineVertex) (from count : ℕ) (h₀ : Held) (j : ℕ) (h : Held) : Type 0 where
  pub made : Writing vs from count h₀.made j h.made
  pub rest : h ≡ making h.made h₀

module _ {vs : List PlineVertex} {from count : ℕ} {h₀ : Held} where
  pub putting_none : Putting vs from count h₀ 0 h₀
  putting_none = record { made = writing_none; rest = refl }

  pub putting_turn : {h h' : Held} {j : ℕ} (d : PlineVertex) → Putting vs from count h₀ j h → h' ≡ put_at h (from + j) (get_or vs j d) → j < count → count ≡ length vs → from + count ≤ length h₀.made
      → Putting vs from count h₀ (j + 1) h'
  putting_turn d w e t n r = rw e (record { made = writing_turn d w.made t n r; rest = rw w.rest })

  pub putting_done : {h : Held} {j : ℕ} → Putting vs from count h₀ j h → count ≤ j → count ≡ length vs → h ≡ making (take from h₀.made ++ vs ++ drop (from + count) h₀.made) h₀
  putting_done w d n = w.rest ∙ ap (λ (ws : List PlineVertex). making ws h₀) (writing_done w.made d n)
