-- The entry of a vertex, and the list that grows by it, in the lent buffers too. Assumes nothing.
use mathlib.Core.Path.{◌≡◌, refl, sym, ap, ◌∙◌, subst}
use mathlib.Core.List.{List, [], ◌∷◌, ◌++◌, map}
use mathlib.Core.Bool.{Bool, true, false}
use Prim.Native.Nat.{ℕ, zero, suc, ◌+◌, ◌-◌, ◌≤◌}
use native.Mathlib.Nat.{add-zero, le_refl}
use native.Mathlib.Numerals.{add-one}
use native.Mathlib.Omega.{arith}
use lib.ListN.{length, drop, set, length-append, length-drop, length-map}
use lib.Seq.{sets, sets-eq, take_at, drop-drop, drop-append-add}
use Rattle.std.specs.Int.{from_bool}
use Rattle.floats.specs.Choice.{when◌give◌else◌}
use Rattle.floats.proofs.Choice.{yes, no}
use Rattle.segments.specs.declared.PlineVertex.{PlineVertex}
use Rattle.compare.specs.declared.Fields.{Fields}
use Rattle.compare.specs.Compare.{Entry, any_of, code_of, entries_for, fields_at, entries_to, number_in, code_in, at_front}

-- ---- one vertex

pub one_entry : (k : ℕ) (f : Fields) → any_of f ≡ true → (record { number = k; fields = f } ∷ []) ≡ entries_for k f
unfolding entries_for
one_entry k f h = yes _ _ _ h refl

pub no-entry : (k : ℕ) (f : Fields) → any_of f ≡ false → [] ≡ entries_for k f
unfolding entries_for
no-entry k f h = no _ _ _ h refl

-- how many entries it has, as the code counts
pub entry-byte : (k : ℕ) (f : Fields) → from_bool (any_of f) ≡ length (entries_for k f)
unfolding entries_for when◌give◌else◌
entry-byte k f = by (any_of f)
  where
    by : (t : Bool) → from_bool t ≡ length {A = Entry} (when t give record { number = k; fields = f } ∷ [] else [])
    by true = refl
    by false = refl

-- what is stored of some entries from place `at` on, and the place past them
abbrev pub Put : List Entry → ℕ → ℕ → List ℕ → List ℕ → List ℕ → List ℕ → Type 0
Put es at end ns ns' fs fs' = (end ≡ at + length es) × ((ns' ≡ sets ns at (map number_in es)) × (fs' ≡ sets fs at (map code_in es)))

module _ (k : ℕ) (f : Fields) (at : ℕ) (ns fs : List ℕ) where
  pub put-none : any_of f ≡ false → Put (entries_for k f) at at ns ns fs fs
  put-none h = subst (λ (es : List Entry). Put es at at ns ns fs fs) (no-entry k f h) (omega arith, (refl, refl))

  pub put_one : any_of f ≡ true → (code : ℕ) → code ≡ code_of f → Put (entries_for k f) at (at + 1) ns (set ns at k) fs (set fs at code)
  put_one h code e = subst (λ (es : List Entry). Put es at (at + 1) ns (set ns at k) fs (set fs at code)) (one_entry k f h) (refl, (refl, ap (set fs at) e))

-- ---- all of them

module _ (vs : List PlineVertex) (fs : List ℕ) (ws : List PlineVertex) (gs : List ℕ) where
  abbrev to : ℕ → List Entry
  to k = entries_to vs fs ws gs k

  abbrev next : ℕ → List Entry
  next k = entries_for k (fields_at vs fs ws gs k)

  pub entries_next : (k : ℕ) → to (k + 1) ≡ to k ++ next k
  unfolding entries_to
  entries_next k = rw add-one

  pub length-next : (k : ℕ) → length (to (k + 1)) ≡ length (to k) + length (next k)
  length-next k = ap length (entries_next k) ∙ length-append (to k) (next k)

  more : (j k : ℕ) → length (to j) ≤ length (to (j + k))
  more j zero = rw (add-zero j) (le_refl _)
  more j (suc k) = let h = more j k in let n = length-next (j + k) in let e : j + suc k ≡ j + k + 1 = omega arith in rw e (omega arith)

  -- the list of fewer vertices is no longer
  pub entries_mono : (j k : ℕ) → j ≤ k → length (to j) ≤ length (to k)
  entries_mono j k h = let e : j + (k - j) ≡ k = omega arith in subst (λ (n : ℕ). length (to j) ≤ length (to n)) e (more j (k - j))

-- ---- in a buffer

pub map-append : (f : Entry → ℕ) (es ds : List Entry) → map f (es ++ ds) ≡ map f es ++ map f ds
map-append f [] ds = refl
map-append f (e ∷ es) ds = ap (λ (t : List ℕ). f e ∷ t) (map-append f es ds)

-- a row more after those at the front
front-next : (xs ys old : List ℕ) {l m : List ℕ} {at : ℕ} → l ≡ at_front xs old → at ≡ length xs → length xs + length ys ≤ length old → m ≡ sets l at ys → m ≡ at_front (xs ++ ys) old
front-next xs ys old {l} {m} {at} e p h q =
    let n = length-append xs ys in
    let a = length-append xs (drop (length xs) old) in
    let d = length-drop (length xs) old in
    let here : length xs + length ys ≤ length (at_front xs old) = omega arith in
    let rest : drop (length xs + length ys) (at_front xs old) ≡ drop (length (xs ++ ys)) old =
    drop-append-add xs (drop (length xs) old) (length ys) ∙ drop-drop (length ys) (length xs) old ∙ ap (λ k. drop k old) (sym n) in
    q ∙ rw (e, p) (sets-eq ys (at_front xs old) (length xs) here ∙ rw (take_at xs (drop (length xs) old) (length xs) refl, rest) refl)

module _ (f : Entry → ℕ) (vs : List PlineVertex) (fs : List ℕ) (ws : List PlineVertex) (gs : List ℕ) (k : ℕ) (old : List ℕ) where
  -- a vertex more: its entry, if it has one, is stored after the list so far
  pub list-next : {l m : List ℕ} {at : ℕ} → l ≡ at_front (map f (to vs fs ws gs k)) old → at ≡ length (to vs fs ws gs k) → length (to vs fs ws gs (k + 1)) ≤ length old →
      m ≡ sets l at (map f (next vs fs ws gs k)) → m ≡ at_front (map f (to vs fs ws gs (k + 1))) old
  list-next e p h q =
      let n = length-next vs fs ws gs k in
      let i = length-map (to vs fs ws gs k) f in
      let j = length-map (next vs fs ws gs k) f in
      front-next (map f (to vs fs ws gs k)) (map f (next vs fs ws gs k)) old e (p ∙ sym i) (omega arith) q
      ∙ ap (λ (xs : List ℕ). at_front xs old) (sym (ap (map f) (entries_next vs fs ws gs k) ∙ map-append f (to vs fs ws gs k) (next vs fs ws gs k)))
