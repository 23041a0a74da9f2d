-- Nearness of points: the same both ways; a point that is not near itself is near nothing; and a finite point is near itself at an e above zero. Assumes nothing.
use mathlib.Core.Path.{◌≡◌, refl, sym, ap, ◌∙◌}
use mathlib.Core.Logic.{inl, inr, ⊎_elim}
use mathlib.Core.Bool.{Bool, true, false, false≢true}
use Prim.Native.Nat.{ℕ, ◌*◌}
use native.Mathlib.Nat.{zero-mul}
use native.Mathlib.Omega.{arith}
use borrow.Author.Tests.{ltb-false, le-ltb}
use lib.IntN.{ℤ, pos}
use lib.Ieee.{Float, nan, inf, fin, up, down, neg, add, sub, lt, of_bits}
use Rattle.floats.specs.Binary64.{◌⊖◌, zero as plus-zero}
use Rattle.floats.specs.Choice.{◌and◌}
use Rattle.floats.specs.Size.{abs_of, within, finite}
use Rattle.floats.proofs.Choice.{either_fails}
use Rattle.floats.proofs.Signs.{within_swap}
use Rattle.vectors.specs.Plane.{near}
use Rattle.vectors.specs.declared.Vector2.{Vector2}
use Rattle.moves.proofs.Finite.{none, less_itself}

-- ---- |a − a|

abs_self : (s : Bool) (m : ℕ) (d : ℤ) → abs_of (fin s m d ⊖ fin s m d) ≡ none
unfolding abs_of finite
abs_self s m d = ap abs_of (less_itself (fin s m d))

-- nothing is below an e that zero is not below
inf-not : (e : Float) → lt (inf false) e ≡ false
unfolding lt
inf-not nan = refl
inf-not (inf t) = refl
inf-not (fin t n d) = refl

not-below : (e x : Float) → lt none e ≡ false → lt (abs_of x) e ≡ false
unfolding lt abs_of
not-below e nan h = refl
not-below e (inf s) h = inf-not e
not-below nan (fin s m k) h = refl
not-below (inf t) (fin s m k) h = h
not-below (fin true n d) (fin s m k) h = refl
not-below (fin false n d) (fin s m k) h =
    let l = ltb-false (0 * up (pos 0) * down d) (n * up d * down (pos 0)) h in
    let z : n * up d ≡ 0 = omega arith in
    let w : n * up d * down k ≡ 0 = rw (z, zero-mul) in
    le-ltb (m * up k * down d) (n * up d * down k) (omega arith)

-- a number that is not finite is within nothing
unbounded : (a b e : Float) → finite a ≡ false → lt (abs_of (a ⊖ b)) e ≡ false
unfolding finite sub add neg abs_of lt
unbounded nan b e h = refl
unbounded (inf s) nan e h = refl
unbounded (inf true) (inf true) e h = refl
unbounded (inf true) (inf false) e h = inf-not e
unbounded (inf false) (inf true) e h = inf-not e
unbounded (inf false) (inf false) e h = refl
unbounded (inf s) (fin t n d) e h = inf-not e
unbounded (fin s m d) b e h = absurd (false≢true (sym h))

infinite : (s : Bool) → finite (inf s) ≡ false
unfolding finite
infinite s = refl

no_number : finite nan ≡ false
unfolding finite
no_number = refl

pub within_self : (a b e : Float) → within a a e ≡ false → within a b e ≡ false
unfolding within
within_self nan b e h = unbounded nan b e no_number
within_self (inf s) b e h = unbounded (inf s) b e (infinite s)
within_self (fin s m d) b e h = not-below e (fin s m d ⊖ b) (ap (λ x. lt x e) (sym (abs_self s m d)) ∙ h)

pub within-finite : (a e : Float) → finite a ≡ true → lt plus-zero e ≡ true → within a a e ≡ true
unfolding within finite of_bits
within-finite nan e h k = absurd (false≢true h)
within-finite (inf s) e h k = absurd (false≢true h)
within-finite (fin s m d) e h k = ap (λ x. lt x e) (abs_self s m d) ∙ k

-- ---- points

pub near_symmetric : (a b : Vector2) (e : Float) → near a b e ≡ near b a e
unfolding near
near_symmetric a b e = rw (within_swap a.x b.x e, within_swap a.y b.y e)

-- a point that is not near itself is near nothing
pub near_self : (p q : Vector2) (e : Float) → near p p e ≡ false → near p q e ≡ false
unfolding near
near_self p q e h =
    (either_fails _ _).1
    (⊎_elim (λ k. inl (within_self p.x q.x e k)) (λ k. inr (within_self p.y q.y e k)) ((either_fails (within p.x p.x e) (within p.y p.y e)).0 h))

-- a finite point is near itself, where e is above zero
pub near-finite : (p : Vector2) (e : Float) → finite p.x ≡ true → finite p.y ≡ true → lt plus-zero e ≡ true → near p p e ≡ true
unfolding near ◌and◌
near-finite p e h k l = rw (within-finite p.x e h l, within-finite p.y e k l)
