-- Nothing is told to differ between two outputs if and only if they are equal. Assumes nothing.
use mathlib.Core.Path.{◌≡◌, refl, sym, ap, ◌∙◌, subst}
use mathlib.Core.List.Memᴰ
use mathlib.Core.List.{List, [], ◌∷◌, Memᴰ}
use mathlib.Core.Bool.{Bool, true, false}
use Prim.Native.Nat.{ℕ, zero, suc, ◌+◌, ◌*◌, ◌<◌}
use native.Mathlib.Omega.{arith}
use borrow.Author.Tests.{eqb-true}
use lib.Dec.{T}
use lib.ListN.{length}
use lib.Seq.{ext_get_or}
use lib.Ieee.{Float, binary64, fits}
use Rattle.floats.proofs.Choice.{both_pass}
use Rattle.refusals.proofs.First.{by_test}
use Rattle.segments.specs.declared.PlineVertex.{PlineVertex}
use Rattle.source.specs.Source.{vertices_of, segments_of}
use Rattle.source.specs.InnerSteps.{vertex_of}
use Rattle.source.proofs.Source.{row_at}
use Rattle.source.proofs.Segments.{segments-most}
use Rattle.compare.specs.Compare.{Output, points_of, vertex_at, flag_at, fields_at, any_of, entries_to, shared, list_of, unmatched, marks_differ, is_even}
use Rattle.compare.specs.Claim.{Doubles, Same}
use Rattle.compare.proofs.Entries.{no-entry}
use Rattle.compare.proofs.Listed.{of-listed}
use Rattle.compare.proofs.Told.{alike, never_differs, unequal_not, equal-not, none_told, none_any, unmatched-is, below-shared, marks-same, same-marks}

-- ---- no entry

module _ (vs : List PlineVertex) (fs : List ℕ) (ws : List PlineVertex) (gs : List ℕ) where
  abbrev at : ℕ → Bool
  at k = any_of (fields_at vs fs ws gs k)

  -- where none is listed nothing differs
  pub none_differs : (n k : ℕ) → length (entries_to vs fs ws gs n) ≡ 0 → k < n → at k ≡ false
  none_differs n k e l =
      by_test (at k)
      (λ (t : at k ≡ true). absurd (none (entries_to vs fs ws gs n) e (of-listed vs fs ws gs n k l t)))
      (λ (t : at k ≡ false). t)
    where
      none : {A : Type 0} {x : A} (xs : List A) → length xs ≡ 0 → Memᴰ x xs → ⊥
      none [] e m = Memᴰ.not-nil m
      none (y ∷ xs) e m = omega arith

  -- and the other way round
  pub none-listed : (n : ℕ) → ((k : ℕ) → k < n → at k ≡ false) → entries_to vs fs ws gs n ≡ []
  unfolding entries_to
  none-listed zero h = refl
  none-listed (suc n) h = rw (none-listed n (λ k l. h k (omega arith)), ← no-entry n (fields_at vs fs ws gs n) (h n (omega arith)))

-- ---- vertices

-- each vertex of a list of doubles is made of doubles
pub record Held (v : PlineVertex) : Type 0 where
  pub x : T (fits binary64 v.x)
  pub y : T (fits binary64 v.y)
  pub bulge : T (fits binary64 v.bulge)

held : (ns : List Float) → Doubles ns → (k : ℕ) → k < length (vertices_of ns) → Held (vertex_at (vertices_of ns) k)
unfolding vertex_of
held ns d k l = subst Held (sym (row_at ns k l)) (record { x = d (3 * k); y = d (3 * k + 1); bulge = d (3 * k + 2) })

module _ (vs : List PlineVertex) (fs : List ℕ) (ws : List PlineVertex) (gs : List ℕ) (k : ℕ) where
  pub same-vertex : Held (vertex_at vs k) → Held (vertex_at ws k) → any_of (fields_at vs fs ws gs k) ≡ false → vertex_at vs k ≡ vertex_at ws k
  unfolding fields_at
  same-vertex p q t =
      let n = none_told (fields_at vs fs ws gs k) t in
      let v = vertex_at vs k in
      let w = vertex_at ws k in
      let is : record { x = v.x; y = v.y; bulge = v.bulge } ≡ w =
      rw (alike v.x w.x p.x q.x n.0, alike v.y w.y p.y q.y n.1, alike v.bulge w.bulge p.bulge q.bulge n.2) in
      is

  pub same_flag : any_of (fields_at vs fs ws gs k) ≡ false → flag_at fs k ≡ flag_at gs k
  unfolding fields_at
  same_flag t = unequal_not (flag_at fs k) (flag_at gs k) (none_told (fields_at vs fs ws gs k) t).3

  pub nothing_differs : vs ≡ ws → fs ≡ gs → any_of (fields_at vs fs ws gs k) ≡ false
  unfolding fields_at
  nothing_differs p q =
      none_any (fields_at vs fs ws gs k) (never_differs _ _ (ap (λ (us : List PlineVertex). (vertex_at us k).x) p)) (never_differs _ _ (ap (λ (us : List PlineVertex). (vertex_at us k).y) p))
      (never_differs _ _ (ap (λ (us : List PlineVertex). (vertex_at us k).bulge) p)) (equal-not _ _ (ap (λ (hs : List ℕ). flag_at hs k) q))

-- ---- outputs

-- how many flags an output has that can be compared
pub flags-many : (o : Output) → is_even o ≡ true → length o.flags ≡ segments_of o.closed (length (points_of o))
unfolding is_even
flags-many o e = eqb-true _ _ ((both_pass _ _).0 e).1

module _ (a b : Output) where
  abbrev v : ℕ
  v = length (points_of a)

  abbrev w : ℕ
  w = length (points_of b)

  pub told_same : Doubles a.numbers → Doubles b.numbers → is_even a ≡ true → is_even b ≡ true → length (list_of a b) ≡ 0 → unmatched v w ≡ 0 → marks_differ a.closed b.closed ≡ false → Same a b
  unfolding list_of
  told_same da db ea eb list only marks =
      let many : v ≡ w = omega (arith, unmatched-is v w) in
      let closed = marks-same a.closed b.closed marks in
      let not_at : (k : ℕ) → k < v → any_of (fields_at (points_of a) a.flags (points_of b) b.flags k) ≡ false =
      λ k l. none_differs (points_of a) a.flags (points_of b) b.flags (shared v w) k list ((below-shared v w k).1 (l, omega arith)) in
      let flags-a = flags-many a ea in
      let flags-b = flags-many b eb in
      let even : length a.flags ≡ length b.flags = flags-a ∙ ap (λ (c : Bool). segments_of c v) closed ∙ ap (segments_of b.closed) many ∙ sym flags-b in
      let few = segments-most a.closed v in
      record {
        vertices = ext_get_or _ (points_of a) (points_of b) many
            (λ k l. same-vertex (points_of a) a.flags (points_of b) b.flags k (held a.numbers da k l) (held b.numbers db k (omega arith)) (not_at k l));
        flags = ext_get_or 0 a.flags b.flags even (λ k l. same_flag (points_of a) a.flags (points_of b) b.flags k (not_at k (omega arith)));
        closed = closed;
      }

  pub same-listed : Same a b → list_of a b ≡ []
  unfolding list_of
  same-listed s = none-listed (points_of a) a.flags (points_of b) b.flags (shared v w) (λ k l. nothing_differs (points_of a) a.flags (points_of b) b.flags k s.vertices s.flags)

  pub same-unmatched : Same a b → unmatched v w ≡ 0
  same-unmatched s = let many = ap length s.vertices in omega (arith, unmatched-is v w)

  pub same-closed : Same a b → marks_differ a.closed b.closed ≡ false
  same-closed s = ap (λ (c : Bool). marks_differ a.closed c) (sym s.closed) ∙ same-marks a.closed
