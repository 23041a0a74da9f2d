-- What holds all along the loop over the turns (`Asks`): what the turns still to come answer is what all of them answer from the start. Assumes nothing.
use mathlib.Core.Path.{◌≡◌, refl, sym, ap, ◌∙◌, subst}
use mathlib.Core.Bool.{Bool, true, false}
use mathlib.Core.List.{List}
use Prim.Native.Nat.{ℕ, suc, ◌+◌, ◌-◌, ◌%◌, ◌<◌, ◌≤◌}
use native.Mathlib.Nat.{add-zero, mod-eq_of_lt, suc-mod, mod_self}
use native.Mathlib.Omega.{arith}
use Rattle.std.proofs.lemmas.Nat.{mod_below}
use borrow.Author.Tests.{ltb-true, ltb-false}
use lib.Dec.{ltb}
use lib.ListN.{length}
use Rattle.segments.specs.declared.PlineVertex.{PlineVertex}
use Rattle.segments.specs.declared.Settings.{Settings}
use Rattle.source.specs.InnerSteps.{vertex_of, next_of}
use Rattle.source.proofs.Segments.{next_on, next_back}
use Rattle.refusals.proofs.First.{by_test}
use Rattle.walk.specs.Walk.{moves_a_segment}
use Rattle.walk.specs.InnerSteps.{stood, Fit, advance}
use Rattle.walk.proofs.Lengths.{moves-few}
use Rattle.sheet.specs.InnerSteps.{routed}
use Rattle.sheet.proofs.Loop.{Moved, advance-moved}
use Rattle.why.specs.declared.Asking.{Asking}
use Rattle.why.specs.InnerSteps.{Asked, asked, asked_turn, asks, Ready}

-- the place of a turn: after the last comes the first
pub at-first : {v k : ℕ} → k < v → (k + 0) % v ≡ k
at-first {v} {k} h = rw (add-zero k) (mod-eq_of_lt h)

after-it : (v p : ℕ) → p < v → suc p % v ≡ next_of v p
after-it v p l =
    by_test (ltb (p + 1) v)
    (λ (t : ltb (p + 1) v ≡ true). let h = ltb-true (p + 1) v t in let e : suc p ≡ p + 1 = omega arith in rw (next_on v p h, e) (mod-eq_of_lt h))
    (λ (t : ltb (p + 1) v ≡ false). let h = ltb-false (p + 1) v t in let e : suc p ≡ v = omega arith in rw (next_back v p h, e) (mod_self v))

pub at_next : {v k : ℕ} (i : ℕ) → k < v → ((k + (i + 1)) % v ≡ next_of v ((k + i) % v)) × ((k + (i + 1)) % v < v)
at_next {v} {k} i h =
    let p = (k + i) % v in
    let below : p < v = omega arith in
    let e : k + (i + 1) ≡ suc (k + i) = omega arith in
    let s : (k + (i + 1)) % v ≡ suc p % v = ap (λ n. n % v) e ∙ suc-mod (k + i) v in
    (s ∙ after-it v p below, mod_below _ v (omega arith))

-- of n turns to the vertices of a source vs of v, i are done, and the next is to place p
pub record Asks (closed : Bool) (σ : Settings) (k : ℕ) (vs : List PlineVertex) (v n : ℕ) (end : Asked) (i p : ℕ) (a : Asking) : Type 0 where
  pub within : i ≤ n
  pub below : p < v
  pub left : asks closed σ k (routed v (n - i) p vs) (asked a) ≡ end
  pub ready : Ready (n - i) a

module _ {closed : Bool} {σ : Settings} {k : ℕ} {vs : List PlineVertex} {v n : ℕ} where
  pub asks_none : {p : ℕ} {a : Asking} → p < v → Ready n a → Asks closed σ k vs v n (asks closed σ k (routed v n p vs) (asked a)) 0 p a
  asks_none {p} {a} h r = let z : n - 0 ≡ n = omega arith in record { within = omega arith; below = h; left = rw z; ready = rw z r }

  module _ {end : Asked} {i p : ℕ} {a : Asking} (on : Asks closed σ k vs v n end i p a) where
    pub asks-turn : (c : PlineVertex) (a' : Asking) {p' : ℕ} → i < n → c ≡ vertex_of vs p → asked a' ≡ asked_turn closed σ k c (asked a) → Fit a'.walk
        → (p' ≡ next_of v p) × (p' < v) → Asks closed σ k vs v n end (i + 1) p' a'
    asks-turn c a' {p'} lt hc e f hp =
        let z : n - i ≡ suc (n - (i + 1)) = omega arith in
        let more : asks closed σ k (routed v (suc (n - (i + 1))) p vs) (asked a) ≡ asks closed σ k (routed v (n - (i + 1)) (next_of v p) vs) (asked_turn closed σ k (vertex_of vs p) (asked a)) =
        unfold asks routed in refl in
        let m : Moved (moves_a_segment σ.corners) c (stood a.walk) (stood a'.walk) (length (advance closed σ c (stood a.walk)).strokes) = rw (ap (λ (q : Asked). q.stood) e) (unfold asked_turn in advance-moved closed σ c (stood a.walk)) in
        let r = on.ready in
        record {
          within = omega arith;
          below = hp.1;
          left = rw (e, hp.0, hc) (sym more ∙ ap (λ t. asks closed σ k (routed v t p vs) (asked a)) (sym z) ∙ on.left);
          ready = record { fit = f; sources = omega (arith, r.sources, m.source); outputs = omega (arith, r.outputs, m.number, moves-few σ.corners) };
        }

    pub asks-done : n ≤ i → asked a ≡ end
    unfolding asks routed
    asks-done h = let z : n - i ≡ 0 = omega arith in subst (λ t. asks closed σ k (routed v t p vs) (asked a) ≡ end) z on.left
