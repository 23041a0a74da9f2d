-- The part of a segment is the first unbroken one that names it (`first_part`); of a row of origins that never falls it is exactly the places that do (`exactly`); of a
-- copy it is the segment itself (`copy-part`). Assumes nothing.
use mathlib.Core.Path.{◌≡◌, refl, sym, ap, ◌∙◌, subst}
use mathlib.Core.Logic.{◌↔◌}
use mathlib.Core.List.{List, [], ◌∷◌, map}
use mathlib.Core.Bool.{Bool, true, false}
use Prim.Native.Nat.{ℕ, zero, suc, ◌+◌, ◌-◌, ◌≤◌, ◌<◌}
use native.Mathlib.Nat.{le_refl, zero-add}
use native.Mathlib.Omega.{arith}
use borrow.Author.Tests.{eqb-true, eqb-false, eq-eqb, ne_eqb, not-true, not-false, ltb-true, ltb-false}
use lib.Dec.{ltb}
use lib.ListN.{length, drop, get_or, length-drop, length-map, get_or-map}
use lib.Seq.{get_or-drop}
use Rattle.floats.proofs.Choice.{yes, no}
use Rattle.refusals.proofs.First.{by_test}
use Rattle.moves.specs.declared.Origin.{Origin}
use Rattle.moves.specs.declared.Origin.TheVariants.{Span}
use Rattle.moves.specs.Made.{segment_of}
use Rattle.moves.specs.Choice.{NeverFalling}
use Rattle.moves.proofs.Rows.{in_front, later-no_less}
use Rattle.walk.specs.Branches.{Is}
use Rattle.walk.specs.Walk.{spans_from}
use Rattle.walk.proofs.Origins.{length_spans, span-at, spans_climb}
use Rattle.part.specs.declared.Bounds.{Bounds}
use Rattle.part.specs.Part.{naming, front, empty, part_at, part_of}
use Rattle.part.proofs.Front.{front_on, front-stop, front-most}
use Rattle.part.specs.Claim.{In, First}
use Rattle.part.proofs.Found.{part-within}

-- ---- what the front of a row says of its places

module _ (s : ℕ) (d : Origin) where
  names : (o : Origin) → naming true s o ≡ true → segment_of o ≡ s
  unfolding naming
  names o h = eqb-true _ _ h

  names-not : (o : Origin) → naming true s o ≡ false → segment_of o ≡ s → ⊥
  unfolding naming
  names-not o h = eqb-false _ _ h

  names-other : (o : Origin) → naming false s o ≡ true → segment_of o ≡ s → ⊥
  unfolding naming
  names-other o h = eqb-false _ _ (not-true _ h)

  names-after : (o : Origin) → naming false s o ≡ false → segment_of o ≡ s
  unfolding naming
  names-after o h = eqb-true _ _ (not-false _ h)

  module _ (b : Bool) where
    -- it goes on up to there
    all-before : (os : List Origin) (i : ℕ) → i < front b s os → naming b s (get_or os i d) ≡ true
    unfolding front
    all-before [] i h = absurd (omega arith)
    all-before (o ∷ os) i h = by (naming b s o) refl (λ k l. all-before os k l) i h
      where
        by : (t : Bool) → naming b s o ≡ t → ((k : ℕ) → k < front b s os → naming b s (get_or os k d) ≡ true) → (k : ℕ) → k < front b s (o ∷ os) → naming b s (get_or (o ∷ os) k d) ≡ true
        by true e f zero l = e
        by true e f (suc k) l = f k (omega (arith, front_on b s o os e))
        by false e f k l = absurd (omega (arith, front-stop b s o os e))

    -- and stops there, unless the row ends
    stops_at : (os : List Origin) → front b s os < length os → naming b s (get_or os (front b s os) d) ≡ false
    unfolding front
    stops_at [] h = absurd (omega arith)
    stops_at (o ∷ os) h = by (naming b s o) refl (λ l. stops_at os l) h
      where
        by : (t : Bool) → naming b s o ≡ t → (front b s os < length os → naming b s (get_or os (front b s os) d) ≡ false) → front b s (o ∷ os) < suc (length os)
            → naming b s (get_or (o ∷ os) (front b s (o ∷ os)) d) ≡ false
        by true e f l = rw (front_on b s o os e) (f (omega (arith, front_on b s o os e)))
        by false e f l = rw (front-stop b s o os e) e

-- ---- exactly

module _ (s : ℕ) (os : List Origin) (d : Origin) where
  abbrev named : ℕ → ℕ
  named i = segment_of (get_or os i d)

  abbrev start : ℕ
  start = front false s os

  abbrev rest : List Origin
  rest = drop start os

  abbrev count : ℕ
  count = front true s rest

  -- the segment at `start`, the ones from there on, and the one after them
  first : start < length os → named start ≡ s
  first h = names-after s d _ (stops_at s d false os h)

  inside : (i : ℕ) → start ≤ i → i < start + count → named i ≡ s
  inside i l h =
      let e : start + (i - start) ≡ i = omega arith in
      let at : get_or rest (i - start) d ≡ get_or os i d = get_or-drop start os (i - start) d ∙ ap (λ (k : ℕ). get_or os k d) e in
      sym (ap segment_of at) ∙ names s d _ (all-before s d true rest (i - start) (omega arith))

  after : start + count < length os → named (start + count) ≡ s → ⊥
  after h e = names-not s d (get_or rest count d) (stops_at s d true rest (rw (length-drop start os) (omega arith))) (ap segment_of (get_or-drop start os count d) ∙ e)

  -- nothing before them names it
  from_start : (i : ℕ) → named i ≡ s → start ≤ i
  from_start i e =
      by_test (ltb i start) (λ (t : ltb i start ≡ true). absurd (names-other s d (get_or os i d) (all-before s d false os i (ltb-true i start t)) e)) (λ (t : ltb i start ≡ false). ltb-false i start t)

  -- there is one where any does
  some : start < length os → count ≡ 0 → ⊥
  some h e =
      let same : start + count ≡ start = omega arith in
      after (omega arith) (ap named same ∙ first h)

  part-is : (start < length os) → part_at start count ≡ part_of s os
  unfolding part_of
  part-is h = no _ _ _ (ne_eqb _ _ (some h)) refl

  none_is : count ≡ 0 → empty ≡ part_of s os
  unfolding part_of
  none_is e = yes _ _ _ (eq-eqb _ _ e) refl

  -- whatever a part holds names its segment
  pub held : (i : ℕ) → In (part_of s os) i → named i ≡ s
  held i h =
      by_test (ltb start (length os))
      (λ (t : ltb start (length os) ≡ true). let in-it = subst (λ (p : Bounds). In p i) (sym (part-is (ltb-true start (length os) t))) h in inside i in-it.0 in-it.1)
      (λ (t : ltb start (length os) ≡ false).
      let none : count ≡ 0 = omega (arith, front-most true s rest, length-drop start os, ltb-false start (length os) t) in
      let in-it = subst (λ (p : Bounds). In p i) (sym (none_is none)) h in
      absurd (omega arith))

  -- where the row never falls it holds all that do
  module _ (level : NeverFalling 0 (map segment_of os)) where
    later : (i j : ℕ) → i ≤ j → j < length os → named i ≤ named j
    later i j l h =
        let n = later-no_less (segment_of d) (map segment_of os) level i j l (rw (length-map os segment_of) h) in
        rw (get_or-map segment_of os i d, get_or-map segment_of os j d) at n

    to_end : (i : ℕ) → i < length os → named i ≡ s → i < start + count
    to_end i h e =
        let l = from_start i e in
        by_test (ltb i (start + count)) (λ (t : ltb i (start + count) ≡ true). ltb-true i (start + count) t)
        (λ (t : ltb i (start + count) ≡ false).
        let past = ltb-false i (start + count) t in
        let one = later start (start + count) (omega arith) (omega arith) in
        let two = later (start + count) i past h in
        let is = first (omega arith) in
        absurd (after (omega arith) (omega arith)))

    pub exactly : (i : ℕ) → i < length os → (named i ≡ s) ↔ In (part_of s os) i
    exactly i h = (
      λ (e : named i ≡ s).
          let l = from_start i e in
          subst (λ (p : Bounds). In p i) (part-is (omega arith)) (l, to_end i h e),
      λ (w : In (part_of s os) i). held i w,
    )

-- ---- the first unbroken part of any row

-- what an origin names, where it stands
at_place : {os : List Origin} {i : ℕ} {o : Origin} {s : ℕ} → Is os i o → segment_of o ≡ s → segment_of (get_or os i o) ≡ s
at_place x e = ap segment_of x.is ∙ e

pub first_part : (s : ℕ) (os : List Origin) → First s os (part_of s os)
first_part s os =
    let start = front false s os in
    let count = front true s (drop start os) in
    by_test (ltb start (length os))
    (λ (t : ltb start (length os) ≡ true).
    let h = ltb-true start (length os) t in
    subst (λ (p : Bounds). First s os p) (part-is s os (Span (record { 0 = 0 })) h) record {
      names = λ i o x w. sym (ap segment_of x.is) ∙ inside s os o i w.0 w.1;
      before = λ i o x l e. let m = from_start s os o i (at_place x e) in omega arith;
      after = λ c o x e. after s os o x.there (at_place x e);
      none = λ z i o x e. some s os o h z;
    })
    (λ (t : ltb start (length os) ≡ false).
    let h = ltb-false start (length os) t in
    let z : count ≡ 0 = omega (arith, front-most true s (drop start os), length-drop start os) in
    subst (λ (p : Bounds). First s os p) (none_is s os (Span (record { 0 = 0 })) z) record {
      names = λ i o x w. absurd (omega arith);
      before = λ i o x l e. omega arith;
      after = λ c o x e. omega arith;
      none = λ z i o x e. let m = from_start s os o i (at_place x e) in omega (arith, x.there);
    })

-- ---- a copy

pub copy-part : (s n : ℕ) → s < n → part_of s (spans_from 0 n) ≡ part_at s 1
copy-part s n h =
    let os = spans_from 0 n in
    let part = part_of s os in
    let d = Span (record { 0 = 0 }) in
    let l = length_spans 0 n in
    let own : (i : ℕ) → i < n → segment_of (get_or os i d) ≡ i = λ i m. ap segment_of (span-at 0 n i d m) ∙ zero-add i in
    let all = exactly s os d (in_front _ _ (spans_climb 0 n)) in
    let fits = part-within s os in
    let here = (all s (omega arith)).0 (own s h) in
    let first : part.start.0 ≡ s = sym (own part.start.0 (omega arith)) ∙ (all part.start.0 (omega arith)).1 (le_refl _, omega arith) in
    let top = part.start.0 + part.count - 1 in
    let last : top ≡ s = sym (own top (omega arith)) ∙ (all top (omega arith)).1 (omega arith, omega arith) in
    let one : part.count ≡ 1 = omega arith in
    let is : part_at part.start.0 part.count ≡ part_at s 1 = rw (first, one) in
    is
