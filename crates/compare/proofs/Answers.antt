-- The answers by their tests. Assumes nothing.
use mathlib.Core.Path.{◌≡◌, refl, sym, ap, ◌∙◌}
use mathlib.Core.List.{List, map}
use mathlib.Core.Bool.{Bool, true, false, not}
use Prim.Native.Nat.{ℕ, ◌≤◌, min}
use borrow.Author.Tests.{ltb-false, leb-true}
use lib.ListN.{length}
use lib.Ieee.{Float}
use Rattle.std.specs.Prelude.{Result, Ok, Err}
use Rattle.floats.specs.Choice.{when◌give◌else◌}
use Rattle.floats.proofs.Choice.{yes, no, both_pass}
use Rattle.refusals.specs.declared.Refusal.{Refusal}
use Rattle.refusals.specs.declared.Refusal.TheVariants.{Ragged, TooMany, NoRoom}
use Rattle.source.specs.Source.{vertices_of}
use Rattle.compare.specs.Compare.{Output, points_of, Entry, entries_to, shared, unmatched, list_of, marks_differ, is_even, is_many, has_room, number_in, code_in, at_front, Outcome, outcome, listing, compare_of}

-- how many vertices an output has that is not refused as too many
pub few : (numbers : List Float) → is_many numbers ≡ false → length (vertices_of numbers) ≤ 12288
unfolding is_many
few numbers h = ltb-false 12288 (length (vertices_of numbers)) h

-- a list that fits
pub fits : (n numbers fields : ℕ) → has_room n numbers fields ≡ true → (n ≤ numbers) × (n ≤ fields)
unfolding has_room
fits n numbers fields h = let both = (both_pass _ _).0 h in (leb-true n numbers both.0, leb-true n fields both.1)

-- what the two tests of an output tell
abbrev pub even_by : Bool → Result (Unit {0}) Refusal
even_by even = when not even give Err Ragged else Ok tt

abbrev pub few_by : Bool → Result (Unit {0}) Refusal
few_by many = when many give Err TooMany else Ok tt

pub even_passed : (t : Bool) → Ok tt ≡ even_by t → t ≡ true
unfolding when◌give◌else◌
even_passed true e = refl
even_passed false e = cc

pub even_failed : (t : Bool) {r : Refusal} → Err r ≡ even_by t → (t ≡ false) × (r ≡ Ragged)
unfolding when◌give◌else◌
even_failed true e = cc
even_failed false e = (refl, cc)

pub few_passed : (t : Bool) → Ok tt ≡ few_by t → t ≡ false
unfolding when◌give◌else◌
few_passed true e = cc
few_passed false e = refl

pub few_failed : (t : Bool) {r : Refusal} → Err r ≡ few_by t → (t ≡ true) × (r ≡ TooMany)
unfolding when◌give◌else◌
few_failed true e = (refl, cc)
few_failed false e = cc

module _ (a b : Output) where
  -- the list up to as many vertices as both have, counted by their numbers
  pub list-is : {most : ℕ} → most ≡ min (length (points_of a)) (length (points_of b)) → entries_to (points_of a) a.flags (points_of b) b.flags most ≡ list_of a b
  unfolding list_of shared
  list-is e = rw e

  module _ (numbers fields : List ℕ) where
    pub no_room : {n : ℕ} → n ≡ length (list_of a b) → has_room n (length numbers) (length fields) ≡ false → outcome (Err NoRoom) numbers fields ≡ listing a b numbers fields
    unfolding listing
    no_room e h = yes _ _ _ (ap not (ap (λ k. has_room k (length numbers) (length fields)) (sym e) ∙ h)) refl

    -- a list that fits, and what is told with it
    pub listed : (list : List Entry) → list ≡ list_of a b → {n u : ℕ} {m : Bool} {ns fs : List ℕ} → n ≡ length list → has_room n (length numbers) (length fields) ≡ true →
        u ≡ unmatched (length (points_of a)) (length (points_of b)) → m ≡ marks_differ a.closed b.closed →
        ns ≡ at_front (map number_in list) numbers → fs ≡ at_front (map code_in list) fields → outcome (Ok (record { listed = n; unmatched = u; marks = m })) ns fs ≡ listing a b numbers fields
    unfolding listing
    listed list is e h p q r s =
        let fits = ap (λ k. has_room k (length numbers) (length fields)) (sym (e ∙ ap length is)) ∙ h in
        no _ _ _ (ap not fits) (rw (e, p, q, r, s, is))

    -- ---- the order of the tests

    pub ragged-first : is_even a ≡ false → outcome (Err Ragged) numbers fields ≡ compare_of a b numbers fields
    unfolding compare_of
    ragged-first h = yes _ _ _ (ap not h) refl

    module _ (even : is_even a ≡ true) where
      pub many-first : is_many a.numbers ≡ true → outcome (Err TooMany) numbers fields ≡ compare_of a b numbers fields
      unfolding compare_of
      many-first h = no _ _ _ (ap not even) (yes _ _ _ h refl)

      module _ (few : is_many a.numbers ≡ false) where
        pub ragged-second : is_even b ≡ false → outcome (Err Ragged) numbers fields ≡ compare_of a b numbers fields
        unfolding compare_of
        ragged-second h = no _ _ _ (ap not even) (no _ _ _ few (yes _ _ _ (ap not h) refl))

        module _ (even-too : is_even b ≡ true) where
          pub many-second : is_many b.numbers ≡ true → outcome (Err TooMany) numbers fields ≡ compare_of a b numbers fields
          unfolding compare_of
          many-second h = no _ _ _ (ap not even) (no _ _ _ few (no _ _ _ (ap not even-too) (yes _ _ _ h refl)))

          pub both-good : is_many b.numbers ≡ false → {o : Outcome} → o ≡ listing a b numbers fields → o ≡ compare_of a b numbers fields
          unfolding compare_of
          both-good h e = no _ _ _ (ap not even) (no _ _ _ few (no _ _ _ (ap not even-too) (no _ _ _ h e)))
