-- Each answer is given exactly when 02 says (`answers`). Assumes nothing.
use mathlib.Core.Path.{◌≡◌, refl, subst}
use mathlib.Core.Logic.{◌↔◌, inl, inr, ⊎_elim}
use mathlib.Core.List.{List}
use mathlib.Core.Bool.{true, false}
use Prim.Native.Nat.{ℕ}
use native.Mathlib.Omega.{arith}
use borrow.Author.Tests.{eqb-true, eqb-false, ltb-true, leb-false}
use lib.Dec.{leb}
use lib.ListN.{length}
use Rattle.std.specs.Prelude.{Err}
use Rattle.floats.proofs.Choice.{both_pass, either_fails}
use Rattle.refusals.specs.declared.Refusal.TheVariants.{Ragged, TooMany, NoRoom}
use Rattle.refusals.proofs.First.{by_test}
use Rattle.compare.specs.Compare.{Output, list_of, is_even, is_many, has_room, Outcome, outcome, compare_of}
use Rattle.compare.specs.Claim.{Even, Many, Fine, Roomy, Answers}
use Rattle.compare.proofs.Answers.{fits, no_room, ragged-first, many-first, ragged-second, many-second, both-good, few}
use Rattle.compare.proofs.Claim.{done, fitting}

-- ---- the tests are the propositions

even-told : (o : Output) → is_even o ≡ true → Even o
unfolding is_even
even-told o t = let b = (both_pass _ _).0 t in record { whole = eqb-true _ _ b.0; flags = eqb-true _ _ b.1 }

even-not : (o : Output) → is_even o ≡ false → Even o → ⊥
unfolding is_even
even-not o t e = ⊎_elim (λ h. eqb-false _ _ h e.whole) (λ h. eqb-false _ _ h e.flags) ((either_fails _ _).0 t)

many-told : (o : Output) → is_many o.numbers ≡ true → Many o
unfolding is_many
many-told o t = ltb-true _ _ t

roomy-told : (a b : Output) (numbers fields : List ℕ) → has_room (length (list_of a b)) (length numbers) (length fields) ≡ true → Roomy a b numbers fields
roomy-told a b numbers fields t = let h = fits _ _ _ t in record { for_numbers = h.0; for_fields = h.1 }

roomy-not : (a b : Output) (numbers fields : List ℕ) → has_room (length (list_of a b)) (length numbers) (length fields) ≡ false → Roomy a b numbers fields → ⊥
unfolding has_room
roomy-not a b numbers fields t r =
    let n = length (list_of a b) in
    ⊎_elim (λ (h : leb n (length numbers) ≡ false). omega (arith, leb-false n (length numbers) h, r.for_numbers))
    (λ (h : leb n (length fields) ≡ false). omega (arith, leb-false n (length fields) h, r.for_fields)) ((either_fails _ _).0 t)

-- ---- each answer

holds : {P Q : Type 0} → P → Q → P ↔ Q
holds p q = (λ _. q, λ _. p)

fails : {P Q : Type 0} → (P → ⊥) → (Q → ⊥) → P ↔ Q
fails p q = (λ x. absurd (p x), λ y. absurd (q y))

module _ (a b : Output) (numbers fields : List ℕ) where
  abbrev Given : Outcome → Type 0
  Given o = Answers a b numbers fields o

  by-ragged : (Even a → ⊥) → Given (outcome (Err Ragged) numbers fields)
  by-ragged u = record {
    ragged = holds refl (inl u);
    many = fails (λ e. omega arith) (⊎_elim (λ h. u h.0) (λ h. u h.0.even));
    room = fails (λ e. omega arith) (λ h. u h.0.even);
    done = fails (λ e. omega arith) (λ h. u h.0.even);
    place = refl;
    refused = λ _. (refl, refl, refl);
  }

  by-many : Even a → Many a → Given (outcome (Err TooMany) numbers fields)
  by-many e m = record {
    ragged = fails (λ z. omega arith) (⊎_elim (λ h. h e) (λ h. omega (arith, h.0.few)));
    many = holds refl (inl (e, m));
    room = fails (λ z. omega arith) (λ h. omega (arith, h.0.few));
    done = fails (λ z. omega arith) (λ h. omega (arith, h.0.few));
    place = refl;
    refused = λ _. (refl, refl, refl);
  }

  by-second-ragged : Fine a → (Even b → ⊥) → Given (outcome (Err Ragged) numbers fields)
  by-second-ragged f u = record {
    ragged = holds refl (inr (f, u));
    many = fails (λ z. omega arith) (⊎_elim (λ h. omega (arith, h.1, f.few)) (λ h. u h.1));
    room = fails (λ z. omega arith) (λ h. u h.1.even);
    done = fails (λ z. omega arith) (λ h. u h.1.even);
    place = refl;
    refused = λ _. (refl, refl, refl);
  }

  by-second-many : Fine a → Even b → Many b → Given (outcome (Err TooMany) numbers fields)
  by-second-many f e m = record {
    ragged = fails (λ z. omega arith) (⊎_elim (λ h. h f.even) (λ h. h.1 e));
    many = holds refl (inr (f, e, m));
    room = fails (λ z. omega arith) (λ h. omega (arith, h.1.few));
    done = fails (λ z. omega arith) (λ h. omega (arith, h.1.few));
    place = refl;
    refused = λ _. (refl, refl, refl);
  }

  by-room : Fine a → Fine b → (Roomy a b numbers fields → ⊥) → Given (outcome (Err NoRoom) numbers fields)
  by-room f g r = record {
    ragged = fails (λ z. omega arith) (⊎_elim (λ h. h f.even) (λ h. h.1 g.even));
    many = fails (λ z. omega arith) (⊎_elim (λ h. omega (arith, h.1, f.few)) (λ h. omega (arith, h.2, g.few)));
    room = holds refl (f, g, r);
    done = fails (λ z. omega arith) (λ h. r h.2);
    place = refl;
    refused = λ _. (refl, refl, refl);
  }

  by-done : Fine a → Fine b → Roomy a b numbers fields → Given (done a b numbers fields)
  by-done f g r = record {
    ragged = fails (λ z. omega arith) (⊎_elim (λ h. h f.even) (λ h. h.1 g.even));
    many = fails (λ z. omega arith) (⊎_elim (λ h. omega (arith, h.1, f.few)) (λ h. omega (arith, h.2, g.few)));
    room = fails (λ z. omega arith) (λ h. h.2 r);
    done = holds refl (f, g, r);
    place = refl;
    refused = λ h. absurd (h refl);
  }

  -- ---- by the tests in their order

  abbrev given : Type 0
  given = Given (compare_of a b numbers fields)

  by-listing : (p : is_even a ≡ true) (q : is_many a.numbers ≡ false) (r : is_even b ≡ true) (s : is_many b.numbers ≡ false) → given
  by-listing p q r s =
      let room = has_room (length (list_of a b)) (length numbers) (length fields) in
      let f : Fine a = record { even = even-told a p; few = few a.numbers q } in
      let g : Fine b = record { even = even-told b r; few = few b.numbers s } in
      by_test room
      (λ (t : room ≡ true). subst Given (both-good a b numbers fields p q r s (fitting a b numbers fields t)) (by-done f g (roomy-told a b numbers fields t)))
      (λ (t : room ≡ false). subst Given (both-good a b numbers fields p q r s (no_room a b numbers fields refl t)) (by-room f g (roomy-not a b numbers fields t)))

  pub answers : given
  answers =
      by_test (is_even a)
      (λ (p : is_even a ≡ true).
      by_test (is_many a.numbers) (λ (q : is_many a.numbers ≡ true). subst Given (many-first a b numbers fields p q) (by-many (even-told a p) (many-told a q)))
      (λ (q : is_many a.numbers ≡ false).
      let f : Fine a = record { even = even-told a p; few = few a.numbers q } in
      by_test (is_even b)
      (λ (r : is_even b ≡ true).
      by_test (is_many b.numbers) (λ (s : is_many b.numbers ≡ true). subst Given (many-second a b numbers fields p q r s) (by-second-many f (even-told b r) (many-told b s)))
      (λ (s : is_many b.numbers ≡ false). by-listing p q r s))
      (λ (r : is_even b ≡ false). subst Given (ragged-second a b numbers fields p q r) (by-second-ragged f (even-not b r)))))
      (λ (p : is_even a ≡ false). subst Given (ragged-first a b numbers fields p) (by-ragged (even-not a p)))
