-- What 02's 2026-03 promises holds of every call that is done (`claim`). Assumes nothing.
use mathlib.Core.Path.{◌≡◌, refl, sym, ap, ◌∙◌, subst}
use mathlib.Core.Logic.{◌↔◌}
use mathlib.Core.List.{List, map, Memᴰ}
use mathlib.Core.Bool.{true, false, not}
use Prim.Native.Nat.{ℕ, ◌<◌}
use native.Mathlib.Omega.{arith}
use lib.ListN.{length, drop, length-map}
use lib.Seq.{take_at, drop_at}
use Rattle.std.specs.Prelude.{Ok, Err}
use Rattle.floats.proofs.Choice.{no}
use Rattle.refusals.specs.declared.Refusal.TheVariants.{Ragged, TooMany, NoRoom}
use Rattle.refusals.specs.Table.{number}
use Rattle.refusals.proofs.First.{by_test}
use Rattle.moves.specs.Choice.{Rising}
use Rattle.compare.specs.declared.Fields.{Fields}
use Rattle.compare.specs.Compare.{Output, points_of, fields_at, any_of, shared, list_of, is_even, is_many, has_room, number_in, code_in, found_in, at_front, Outcome, outcome, listing, compare_of}
use Rattle.compare.specs.Claim.{Doubles, Differing, Same, Nothing, Claim}
use Rattle.compare.proofs.Answers.{no_room, ragged-first, many-first, ragged-second, many-second, both-good}
use Rattle.compare.proofs.Listed.{listed_of, of-listed, entries_rise}
use Rattle.compare.proofs.Told.{unequal_told, differ-told, settled, any_told, code-fields, unmatched-is, below-shared, marks-told}
use Rattle.compare.proofs.Alike.{told_same, same-listed, same-unmatched, same-closed}

-- ---- the list

module _ (a b : Output) where
  abbrev at : ℕ → Fields
  at k = fields_at (points_of a) a.flags (points_of b) b.flags k

  -- what differs at a vertex, in words
  says : (k : ℕ) → k < length (points_of a) → k < length (points_of b) → any_of (at k) ≡ true → Differing a b k (at k)
  unfolding fields_at
  says k p q t = record {
    in_first = p;
    in_second = q;
    x = differ-told _ _;
    y = differ-told _ _;
    bulge = differ-told _ _;
    flag = unequal_told _ _;
    some = (any_told (at k)).0 t;
  }

  -- nothing else says so
  only : (k : ℕ) (f : Fields) → Differing a b k f → f ≡ at k
  unfolding fields_at
  only k f d =
      let is : record { x = f.x; y = f.y; bulge = f.bulge; flag = f.flag } ≡ at k =
      rw (settled _ _ d.x (differ-told _ _), settled _ _ d.y (differ-told _ _), settled _ _ d.bulge (differ-told _ _), settled _ _ d.flag (unequal_told _ _)) in
      is

  exactly : (k : ℕ) (f : Fields) → Memᴰ (record { number = k; fields = f }) (list_of a b) ↔ Differing a b k f
  unfolding list_of
  exactly k f =
      let n = shared (length (points_of a)) (length (points_of b)) in
      let both = below-shared (length (points_of a)) (length (points_of b)) k in (
        λ (m : Memᴰ (record { number = k; fields = f }) (list_of a b)).
            let o = listed_of (points_of a) a.flags (points_of b) b.flags n _ m in
            let l = both.0 o.below in
            subst (λ (g : Fields). Differing a b k g) (sym o.is) (says k l.0 l.1 (ap any_of (sym o.is) ∙ o.some)),
        λ (d : Differing a b k f).
            let e = only k f d in
            let t = ap any_of (sym e) ∙ (any_told f).1 d.some in
            subst (λ (g : Fields). Memᴰ (record { number = k; fields = g }) (list_of a b)) (sym e) (of-listed (points_of a) a.flags (points_of b) b.flags n k (both.1 (d.in_first, d.in_second)) t),
      )

  rises : Rising 0 (map number_in (list_of a b))
  unfolding list_of
  rises = entries_rise (points_of a) a.flags (points_of b) b.flags _

-- ---- a call that is done

module _ (a b : Output) (numbers fields : List ℕ) where
  abbrev pub done : Outcome
  done = outcome (Ok (found_in a b)) (at_front (map number_in (list_of a b)) numbers) (at_front (map code_in (list_of a b)) fields)

  -- it was refused by no test
  record Passed : Type 0 where
    first : is_even a ≡ true
    second : is_even b ≡ true
    is : done ≡ compare_of a b numbers fields

  abbrev zero_of : Outcome → Type 0
  zero_of o = number o.answer ≡ 0

  pub fitting : has_room (length (list_of a b)) (length numbers) (length fields) ≡ true → done ≡ listing a b numbers fields
  unfolding listing
  fitting t = no _ _ _ (ap not t) refl

  with-room : is_even a ≡ true → is_many a.numbers ≡ false → is_even b ≡ true → is_many b.numbers ≡ false → zero_of (compare_of a b numbers fields) → Passed
  with-room p q r s h =
      let room = has_room (length (list_of a b)) (length numbers) (length fields) in
      by_test room
      (λ (t : room ≡ true). record { first = p; second = r; is = both-good a b numbers fields p q r s (fitting t) })
      (λ (t : room ≡ false). absurd (nonzero (subst zero_of (sym (both-good a b numbers fields p q r s (no_room a b numbers fields refl t))) h)))
    where
      nonzero : zero_of (outcome (Err NoRoom) numbers fields) → ⊥
      nonzero e = omega arith

  passed : zero_of (compare_of a b numbers fields) → Passed
  passed h =
      by_test (is_even a)
      (λ (p : is_even a ≡ true).
      by_test (is_many a.numbers) (λ (q : is_many a.numbers ≡ true). absurd (many (subst zero_of (sym (many-first a b numbers fields p q)) h)))
      (λ (q : is_many a.numbers ≡ false).
      by_test (is_even b)
      (λ (r : is_even b ≡ true).
      by_test (is_many b.numbers) (λ (s : is_many b.numbers ≡ true). absurd (many (subst zero_of (sym (many-second a b numbers fields p q r s)) h)))
      (λ (s : is_many b.numbers ≡ false). with-room p q r s h))
      (λ (r : is_even b ≡ false). absurd (ragged (subst zero_of (sym (ragged-second a b numbers fields p q r)) h)))))
      (λ (p : is_even a ≡ false). absurd (ragged (subst zero_of (sym (ragged-first a b numbers fields p)) h)))
    where
      ragged : zero_of (outcome (Err Ragged) numbers fields) → ⊥
      ragged e = omega arith

      many : zero_of (outcome (Err TooMany) numbers fields) → ⊥
      many e = omega arith

  of-done : Doubles a.numbers → Doubles b.numbers → is_even a ≡ true → is_even b ≡ true → Claim a b numbers fields done
  of-done da db p q =
      let n = length-map (list_of a b) number_in in
      let m = length-map (list_of a b) code_in in
      record {
        list = list_of a b;
        counted = refl;
        in_numbers = take_at (map number_in (list_of a b)) _ _ n;
        in_fields = take_at (map code_in (list_of a b)) _ _ m;
        readable = code-fields;
        past-numbers = drop_at (map number_in (list_of a b)) _ _ n ∙ ap (λ k. drop k numbers) n;
        past-fields = drop_at (map code_in (list_of a b)) _ _ m ∙ ap (λ k. drop k fields) m;
        exactly = exactly a b;
        rising = rises a b;
        unmatched = unmatched-is (length (points_of a)) (length (points_of b));
        marks = marks-told a.closed b.closed;
        equal = (
          λ (t : Nothing (found_in a b)). told_same a b da db p q t.listed t.unmatched t.marks,
          λ (s : Same a b). record { listed = ap length (same-listed a b s); unmatched = same-unmatched a b s; marks = same-closed a b s },
        );
      }

  pub claim : Doubles a.numbers → Doubles b.numbers → number (compare_of a b numbers fields).answer ≡ 0 → Claim a b numbers fields (compare_of a b numbers fields)
  claim da db h = let w = passed h in subst (λ (o : Outcome). Claim a b numbers fields o) w.is (of-done da db w.first w.second)
