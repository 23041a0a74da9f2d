-- Demand 3 over any kind of move that has an end, and any nearness: exactly one choice follows the rule, and it keeps the kept moves (`one_choice`); neighbours among
-- the points of the kept moves are apart (`kept-apart`); where a move was emitted, the last kept point is near its end (`last-near`); and a walk that ends where it
-- began, of two moves or more, never keeps exactly one (`never_one`). Assumes nothing.
use mathlib.Core.Path.{◌≡◌, refl, sym, ap, ◌∙◌, subst}
use mathlib.Core.List.{List, [], ◌∷◌, ◌++◌, map, append-nil}
use mathlib.Core.Bool.{Bool, true, false, true≢false}
use Prim.Native.Nat.{ℕ, suc, ◌<◌}
use native.Mathlib.Omega.{arith}
use lib.ListN.{length}
use Rattle.moves.specs.Moves.{kept, last_point}
use Rattle.moves.specs.Choice.{Follows, chosen, OneChoice, Apart}
use Rattle.moves.specs.Choice.Follows.{done, keep, omit}
use Rattle.moves.specs.Choice.Apart.{one, more}
use Rattle.moves.proofs.Kept as K

-- ---- exactly one choice

module _ {M P : Type 0} {end : M → P} {close : P → P → Bool} where
  -- a choice that follows the rule keeps the kept moves
  follows-keeps : {p : P} {ms : List M} {bs : List Bool} → Follows end close p ms bs → chosen bs ms ≡ kept end close p ms
  unfolding chosen
  follows-keeps {p} done = sym (K.kept-nil end close p)
  follows-keeps {p} (keep {m = m} {ms = ms} h f) = ap (λ (t : List M). m ∷ t) (follows-keeps f) ∙ sym (K.kept_far end close p m ms h)
  follows-keeps {p} (omit {m = m} {ms = ms} h f) = follows-keeps f ∙ sym (K.kept_near end close p m ms h)

  -- and no other does
  same : {p : P} {ms : List M} {bs cs : List Bool} → Follows end close p ms bs → Follows end close p ms cs → bs ≡ cs
  same done done = refl
  same (keep h f) (keep k g) = ap (λ t. true ∷ t) (same f g)
  same (keep h f) (omit k g) = absurd (true≢false (sym k ∙ h))
  same (omit h f) (keep k g) = absurd (true≢false (sym h ∙ k))
  same (omit h f) (omit k g) = ap (λ t. false ∷ t) (same f g)

module _ {M P : Type 0} (end : M → P) (close : P → P → Bool) where
  -- there is one
  follow : (p : P) (ms : List M) → (bs : List Bool) × Follows end close p ms bs
  follow p [] = ([], done)
  follow p (m ∷ ms) = by (close p (end m)) refl (follow p ms) (follow (end m) ms)
    where
      by : (b : Bool) → close p (end m) ≡ b → (bs : List Bool) × Follows end close p ms bs → (bs : List Bool) × Follows end close (end m) ms bs
          → (bs : List Bool) × Follows end close p (m ∷ ms) bs
      by true h k l = (false ∷ k.0, omit h k.1)
      by false h k l = (true ∷ l.0, keep h l.1)

  pub one_choice : (p : P) (ms : List M) → OneChoice end close p ms (kept end close p ms)
  one_choice p ms =
      let w = follow p ms in
      record { choice = w.0; follows = w.1; only = λ bs f. same f w.1; keeps = follows-keeps w.1 }

  -- ---- neighbours

  pub kept-apart : (p : P) (ms : List M) → Apart close (p ∷ map end (kept end close p ms))
  kept-apart p [] = rw (K.kept-nil end close p) one
  kept-apart p (m ∷ ms) = by (close p (end m)) refl (kept-apart p ms) (kept-apart (end m) ms)
    where
      by : (b : Bool) → close p (end m) ≡ b → Apart close (p ∷ map end (kept end close p ms)) → Apart close (end m ∷ map end (kept end close (end m) ms))
          → Apart close (p ∷ map end (kept end close p (m ∷ ms)))
      by true h k l = rw (K.kept_near end close p m ms h) k
      by false h k l = rw (K.kept_far end close p m ms h) (more h l)

  -- ---- the last kept point

  -- after a move whose end is near itself, the last kept point is near that end, whether the move was kept or dropped
  pub last-near : (p : P) (ms : List M) (m : M) → close (end m) (end m) ≡ true → close (last_point end p (kept end close p (ms ++ m ∷ []))) (end m) ≡ true
  last-near p ms m h = rw (K.kept_append end close p ms (m ∷ [])) (by (close q (end m)) refl)
    where
      q : P
      q = last_point end p (kept end close p ms)

      by : (b : Bool) → close q (end m) ≡ b → close (last_point end p (kept end close p ms ++ kept end close q (m ∷ []))) (end m) ≡ true
      by true k = rw (K.kept-one-near end close q m k, append-nil (kept end close p ms)) k
      by false k = rw (K.kept-one_far end close q m k, K.last_point-snoc end p (kept end close p ms) m) h

  -- ---- a walk that ends where it began

  first-apart : {p q : P} {ps : List P} → Apart close (p ∷ q ∷ ps) → close p q ≡ false
  first-apart (more h a) = h

  module _ (symmetric : (a b : P) → close a b ≡ close b a) (self : (a b : P) → close a a ≡ false → close a b ≡ false) (p : P) (c : M) (ends : end c ≡ p) where
    -- the closing move c after the kept moves ks
    closing-count : (ms ks : List M) → 0 < length ms → ks ≡ kept end close p ms → length (ks ++ kept end close (last_point end p ks) (c ∷ [])) ≡ 1 → ⊥
    unfolding last_point
    closing-count [] ks l h n = absurd (omega arith)
    closing-count (m ∷ ms) [] l h n = by (close p (end c)) refl
      where
        all-kept : close p p ≡ false → ⊥
        all-kept k = let e : 0 ≡ suc (length (kept end close (end m) ms)) = ap length (h ∙ K.kept_far end close p m ms (self p (end m) k)) in omega arith

        by : (b : Bool) → close p (end c) ≡ b → ⊥
        by true k = let e : ◌≡◌ {A = ℕ} 0 1 = ap length (sym (K.kept-one-near end close p c k)) ∙ n in omega arith
        by false k = all-kept (ap (close p) (sym ends) ∙ k)
    closing-count (m ∷ ms) (k ∷ []) l h n =
        let a : close p (end k) ≡ false = first-apart (subst (λ (t : List M). Apart close (p ∷ map end t)) (sym h) (kept-apart p (m ∷ ms))) in
        let f : close (end k) (end c) ≡ false = ap (close (end k)) ends ∙ symmetric (end k) p ∙ a in
        let e : ◌≡◌ {A = ℕ} 2 1 = ap (λ (t : List M). suc (length t)) (sym (K.kept-one_far end close (end k) c f)) ∙ n in
        omega arith
    closing-count (m ∷ ms) (k ∷ j ∷ ks) l h n = omega arith

    pub never_one : (ms : List M) → 0 < length ms → length (kept end close p (ms ++ c ∷ [])) ≡ 1 → ⊥
    never_one ms l n = closing-count ms (kept end close p ms) l refl (ap length (sym (K.kept_append end close p ms (c ∷ []))) ∙ n)
