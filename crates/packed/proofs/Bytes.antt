-- The numbers of a packed job, and what a well formed one has. Assumes nothing.
use mathlib.Core.Path.{◌≡◌, refl, sym, ap, ◌∙◌}
use mathlib.Core.Bool.{Bool, true, false, not}
use Rattle.std.specs.Prelude.{Option, Some, None}
use mathlib.Core.List.{List, ◌++◌}
use Prim.Native.Nat.{ℕ, zero, suc, ◌+◌, ◌-◌, ◌*◌, ◌%◌, ◌<◌, ◌≤◌}
use native.Mathlib.Omega.{arith}
use borrow.Author.Tests.{eqb-true, leb-true, leb-false, eq-eqb, ne_eqb, not-true, not-false}
use lib.Dec.{leb}
use lib.Ieee.{Float}
use lib.ListN.{length, take, drop, length-append, length-drop}
use lib.Seq.{take_at, take_all, length-take-le}
use Rattle.floats.proofs.Choice.{yes, no, and_no, both_pass}
use Rattle.words.specs.Words.{number_at}
use Rattle.segments.specs.declared.Corners.{Corners}
use Rattle.packed.specs.declared.unpacked.Form.{Form}
use Rattle.packed.specs.declared.unpacked.Form.TheVariants.{Round, Pointed, Either}
use Rattle.packed.specs.declared.unpacked.PackedJob.{PackedJob}
use Rattle.packed.specs.Packed.{numbers_of, well_formed, count_of, source_of, packed_of, decoded, decoded_by, has_ratio, job_in, corners_in, decoded_of}

-- ---- the numbers of the vertices

pub length-numbers : (bytes : List ℕ) (k : ℕ) → length (numbers_of bytes k) ≡ k
unfolding numbers_of
length-numbers bytes zero = refl
length-numbers bytes (suc k) = let n = length-numbers bytes k in rw length-append (omega arith)

-- ---- well formed

module _ (bytes : List ℕ) where
  -- the size is that of the count, and the count is at most 512
  pub sized : well_formed bytes ≡ true → length bytes ≡ 18 + 24 * count_of bytes
  unfolding well_formed
  sized h = eqb-true _ _ ((both_pass _ _).0 ((both_pass _ _).0 h).0).0

  pub few : well_formed bytes ≡ true → count_of bytes ≤ 512
  unfolding well_formed
  few h = leb-true _ _ ((both_pass _ _).0 h).1

  -- too short for the offset and ε
  pub short : length bytes < 18 → false ≡ well_formed bytes
  unfolding well_formed
  short h =
      let apart : length bytes ≡ 2 + 16 + 24 * count_of bytes → ⊥ = λ e. omega arith in
      and_no _ _ (sym (and_no _ _ (ne_eqb _ _ apart) refl)) refl

  -- longer than the largest job
  long-by : (b : Bool) → well_formed bytes ≡ b → 12306 < length bytes → well_formed bytes ≡ false
  long-by true w h = absurd (omega (arith, sized w, few w))
  long-by false w h = w

  pub long : 12306 < length bytes → well_formed bytes ≡ false
  long h = long-by (well_formed bytes) refl h

  -- what the code's test tells
  pub formed : {r : Bool} → r ≡ well_formed bytes → not r ≡ false → well_formed bytes ≡ true
  formed e n = sym e ∙ not-false _ n

  -- for whoever calls `decode`: the two ways of it
  module _ (corners : Corners) (old : List Float) {p : Option PackedJob} {s : List Float} (e : decoded p s ≡ decoded_by corners bytes old) where
    as_job : well_formed bytes ≡ true → (p ≡ Some (packed_of corners bytes)) × (s ≡ source_of bytes ++ drop (3 * count_of bytes) old)
    unfolding decoded_by
    as_job w = let q = e ∙ sym (yes _ _ _ w refl) in (ap (λ d. d.answer) q, ap (λ d. d.source) q)

    as_none : well_formed bytes ≡ false → p ≡ None
    unfolding decoded_by
    as_none w = ap (λ d. d.answer) (e ∙ sym (no _ _ _ w refl))

    none-by : (b : Bool) → well_formed bytes ≡ b → p ≡ None → well_formed bytes ≡ false
    none-by true w m = let k = (as_job w).0 in cc
    none-by false w m = w

    pub decoded-none : p ≡ None → well_formed bytes ≡ false
    decoded-none m = none-by (well_formed bytes) refl m

    module _ {j : PackedJob} (is : p ≡ Some j) where
      well_by : (b : Bool) → well_formed bytes ≡ b → well_formed bytes ≡ true
      well_by true w = w
      well_by false w = let k = as_none w in cc

      pub decoded_well : well_formed bytes ≡ true
      decoded_well = well_by (well_formed bytes) refl

      -- a job is that of the bytes
      pub decoded_job : j ≡ packed_of corners bytes
      decoded_job = let k = (as_job decoded_well).0 in cc

      -- it has at most 512 vertices, and the list holds their numbers
      pub decoded-room : (j.vertices ≤ 512) × (3 * j.vertices ≤ length s)
      unfolding source_of packed_of
      decoded-room =
          let n = ap (λ k. k.vertices) decoded_job in
          let l = ap length (as_job decoded_well).1 ∙ length-append (source_of bytes) (drop (3 * count_of bytes) old) in
          (omega (arith, few decoded_well), omega (arith, length-numbers bytes (3 * count_of bytes)))

      pub decoded-numbers : take (3 * j.vertices) s ≡ source_of bytes
      unfolding source_of packed_of
      decoded-numbers =
          rw (decoded_job, (as_job decoded_well).1)
          (take_at (source_of bytes) (drop (3 * count_of bytes) old) (3 * count_of bytes) (length-numbers bytes (3 * count_of bytes)))

-- ---- a packed job, a pointed one, or either

module _ (form : Form) (bytes : List ℕ) where
  pub without_ratio : has_ratio form (length bytes) ≡ false → (corners_in form bytes ≡ Corners.Round) × (job_in form bytes ≡ bytes)
  unfolding corners_in job_in
  without_ratio e = (sym (no _ _ _ e refl), sym (no _ _ _ e refl))

  pub with-ratio : has_ratio form (length bytes) ≡ true → (corners_in form bytes ≡ Corners.Pointed (number_at bytes 0)) × (job_in form bytes ≡ drop 8 bytes)
  unfolding corners_in job_in
  with-ratio e = (sym (yes _ _ _ e refl), sym (yes _ _ _ e refl))

module _ (bytes : List ℕ) where
  -- where either may come, a packed job is never taken for a pointed one, nor a pointed one for a packed job
  pub never_pointed : well_formed bytes ≡ true → has_ratio Either (length bytes) ≡ false
  never_pointed w =
      let n = sized bytes w in
      let apart : length bytes % 24 ≡ 2 → ⊥ = λ e. omega arith in
      ne_eqb _ _ apart

  pub never_round : well_formed (drop 8 bytes) ≡ true → has_ratio Either (length bytes) ≡ true
  never_round w =
      let n = sized (drop 8 bytes) w in
      let m = length-drop 8 bytes in
      let same : length bytes % 24 ≡ 2 = omega arith in
      eq-eqb _ _ same

-- too short for a packed job's offset and ε, with a ratio or without
module _ (bytes : List ℕ) where
  short-by : (form : Form) (b : Bool) → has_ratio form (length bytes) ≡ b → length bytes < 18 → well_formed (job_in form bytes) ≡ false
  short-by form true e h = rw (with-ratio form bytes e).1 (sym (short (drop 8 bytes) (omega (arith, length-drop 8 bytes))))
  short-by form false e h = rw (without_ratio form bytes e).1 (sym (short bytes h))

  pub too_short : (form : Form) → length bytes < 18 → well_formed (job_in form bytes) ≡ false
  too_short form h = short-by form _ refl h

-- how many bytes the largest job has
abbrev pub largest : Form → ℕ
largest Round = 12306
largest Pointed = 12314
largest Either = 12314

module _ (bytes : List ℕ) where
  long_of : (form : Form) (b : Bool) → has_ratio form (length bytes) ≡ b → 12314 < length bytes → well_formed (job_in form bytes) ≡ false
  long_of form true e h = rw (with-ratio form bytes e).1 (long (drop 8 bytes) (omega (arith, length-drop 8 bytes)))
  long_of form false e h = rw (without_ratio form bytes e).1 (long bytes (omega arith))

  -- of a longer input nothing is read as a job
  pub too_long : (form : Form) → largest form < length bytes → well_formed (job_in form bytes) ≡ false
  too_long Round h = rw (without_ratio Round bytes refl).1 (long bytes h)
  too_long Pointed h = long_of Pointed _ refl h
  too_long Either h = long_of Either _ refl h

-- What answers all longer inputs alike may stop reading a byte after the longest that it takes.
pub cut_by_lem : {A : Type 0} (most : ℕ) (f : List ℕ → A) (none : A) → ((bytes : List ℕ) → most < length bytes → f bytes ≡ none) → (bytes : List ℕ) → f (take (most + 1) bytes) ≡ f bytes
cut_by_lem most f none longer bytes = by (leb (length bytes) (most + 1)) refl
  where
    by : (b : Bool) → leb (length bytes) (most + 1) ≡ b → f (take (most + 1) bytes) ≡ f bytes
    by true e = ap f (take_all (most + 1) bytes (leb-true _ _ e))
    by false e =
        let h = leb-false (length bytes) (most + 1) e in
        let n = length-take-le (most + 1) bytes (omega arith) in
        longer (take (most + 1) bytes) (omega arith) ∙ sym (longer bytes (omega arith))

-- ---- for `decode`

module _ (form : Form) (bytes : List ℕ) (old : List Float) where
  pub decoded-round : {r : Bool} → r ≡ has_ratio form (length bytes) → not r ≡ true → decoded_by Corners.Round bytes old ≡ decoded_of form bytes old
  decoded-round e n = let w = without_ratio form bytes (sym e ∙ not-true _ n) in rw (w.0, w.1)

  -- the ratio is cut short, and so no job follows it
  pub decoded-short : length bytes < 8 → decoded None old ≡ decoded_of form bytes old
  unfolding decoded_by
  decoded-short h = no _ _ _ (too_short bytes form (omega arith)) refl

  pub decoded-pointed : {r : Bool} → r ≡ has_ratio form (length bytes) → not r ≡ false → {x : Float} → x ≡ number_at bytes 0 → decoded_by (Corners.Pointed x) (take (length bytes - 8) (drop 8 bytes)) old ≡ decoded_of form bytes old
  decoded-pointed e n x =
      let w = with-ratio form bytes (sym e ∙ not-false _ n) in
      let m = length-drop 8 bytes in
      rw (w.0, w.1, x, take_all (length bytes - 8) (drop 8 bytes) (omega arith))
