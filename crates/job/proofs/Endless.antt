-- Vertices are not all finite exactly where one of their numbers, laid flat, is a NaN or an infinity. Assumes nothing.
use mathlib.Core.Path.{◌≡◌, refl, sym, ap, ◌∙◌}
use mathlib.Core.Logic.{inl, inr, ⊎_elim}
use mathlib.Core.List.{List, [], ◌∷◌, Memᴰ}
use mathlib.Core.Bool.{Bool, true, false, false≢true}
use lib.Ieee.{Float, nan, inf, fin}
use Rattle.floats.specs.Choice.{◌and◌}
use Rattle.floats.specs.Size.{finite}
use Rattle.floats.proofs.Choice.{either_fails}
use Rattle.segments.specs.declared.PlineVertex.{PlineVertex}
use Rattle.moves.specs.Drawing.{finite_vertex, all_finite}
use Rattle.sheet.specs.Buffers.{flat}
use Rattle.job.specs.Rows.{Endless, not-a-number, infinite}

unbounded : (x : Float) → finite x ≡ false → Endless x
unfolding finite
unbounded nan e = not-a-number refl
unbounded (inf s) e = infinite s refl
unbounded (fin s m d) e = absurd (false≢true (sym e))

endless : {x : Float} → Endless x → finite x ≡ false
unfolding finite
endless (not-a-number e) = rw e
endless (infinite s e) = rw e

-- ---- numbers

abbrev all : List Float → Bool
all [] = true
all (x ∷ xs) = finite x and all xs

-- one of them is
pub record Holds (xs : List Float) : Type 0 where
  pub x : Float
  pub held : Memᴰ x xs
  pub endless : Endless x

later : {y : Float} {xs : List Float} → Holds xs → Holds (y ∷ xs)
later h = record { x = h.x; held = Memᴰ.tail h.held; endless = h.endless }

one-is : (xs : List Float) → all xs ≡ false → Holds xs
one-is [] e = absurd (false≢true (sym e))
one-is (x ∷ xs) e =
    ⊎_elim (λ p. record { x = x; held = Memᴰ.head refl; endless = unbounded x p }) (λ p. later (one-is xs p)) ((either_fails (finite x) (all xs)).0 e)

not-all : {x : Float} {xs : List Float} → Memᴰ x xs → Endless x → all xs ≡ false
not-all (Memᴰ.head {x = y} {xs} p) e = (either_fails (finite y) (all xs)).1 (inl (ap finite (sym p) ∙ endless e))
not-all (Memᴰ.tail {x = y} {xs} m) e = (either_fails (finite y) (all xs)).1 (inr (not-all m e))

-- ---- vertices

assoc : (a b c : Bool) → (a and b and c) ≡ (a and (b and c))
unfolding ◌and◌
assoc true b c = refl
assoc false b c = refl

laid-flat : (vs : List PlineVertex) → all_finite vs ≡ all (flat vs)
unfolding all_finite finite_vertex flat
laid-flat [] = refl
laid-flat (v ∷ vs) = rw (laid-flat vs) (simp assoc)

pub fails→holds : (vs : List PlineVertex) → all_finite vs ≡ false → Holds (flat vs)
fails→holds vs e = one-is (flat vs) (sym (laid-flat vs) ∙ e)

pub holds→fails : {x : Float} (vs : List PlineVertex) → Memᴰ x (flat vs) → Endless x → all_finite vs ≡ false
holds→fails vs m e = laid-flat vs ∙ not-all m e
