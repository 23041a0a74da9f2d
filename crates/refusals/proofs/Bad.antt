-- A number is outside its limits exactly where it is bad: a NaN, an infinity, below the lower limit or above the upper one. Assumes nothing.
use mathlib.Core.Path.{◌≡◌, refl, sym, ◌∙◌, ap, subst}
use mathlib.Core.Logic.{◌↔◌, inl, inr, ⊎_elim}
use mathlib.Core.Bool.{Bool, true, false, not}
use lib.Dec.{T}
use lib.Ieee.{Float, nan, inf, fin, neg, le, of_bits}
use Rattle.floats.specs.Choice.{◌and◌}
use Rattle.floats.specs.Size.{finite}
use Rattle.floats.proofs.Choice.{either_fails}
use Rattle.floats.proofs.Order.{fails, number, nle→lt, lt→nle}
use Rattle.segments.specs.declared.Corners.{Corners}
use Rattle.segments.specs.declared.Corners.TheVariants.{Round, Pointed}
use Rattle.segments.specs.declared.PlineVertex.{PlineVertex}
use Rattle.refusals.specs.Limits.{reach, bulge_limit, least_eps, most_eps, least_ratio, most_ratio, inside, good_vertex, good_offset, good_eps, good_corners}
use Rattle.refusals.specs.Rows.{Bad, not-a-number, infinite, below, above, BadVertex, by-x, by-y, by-bulge}

-- ---- tests that pass and tests that fail
pub passes : (b : Bool) → (b ≡ true) ↔ T b
passes true = (λ _. tt, λ _. refl)
passes false = (λ e. subst T (sym e) tt, λ t. absurd t)

failed : (b : Bool) → b ≡ false → T (not b)
failed b e = subst (λ (t : Bool). T (not t)) (sym e) tt

pub not_fails : (b : Bool) → (not b ≡ true) ↔ (b ≡ false)
not_fails true = (λ e. sym e, λ e. sym e)
not_fails false = (λ _. refl, λ _. refl)

-- ---- one number, between limits that are finite
number_of : (x : Float) → T (finite x) → T (number x)
unfolding finite
number_of nan h = h
number_of (inf s) h = tt
number_of (fin s m e) h = tt

-- an infinity is not between
far : (lo hi : Float) (s : Bool) → T (finite lo) → T (finite hi) → inside lo hi (inf s) ≡ false
unfolding inside ◌and◌ finite le
far nan hi s low high = absurd low
far (inf t) hi s low high = absurd low
far (fin t m d) nan s low high = absurd high
far (fin t m d) (inf u) s low high = absurd high
far (fin t m d) (fin u n e) true low high = refl
far (fin t m d) (fin u n e) false low high = refl

-- and a NaN is not
never : (lo hi : Float) → inside lo hi nan ≡ false
unfolding inside ◌and◌ le
never nan hi = refl
never (inf t) hi = refl
never (fin t m d) hi = refl

module _ (lo hi : Float) (low : T (finite lo)) (high : T (finite hi)) where
  outside→bad : (x : Float) → inside lo hi x ≡ false → Bad lo hi x
  unfolding inside
  outside→bad nan e = not-a-number refl
  outside→bad (inf s) e = infinite s refl
  outside→bad (fin s m d) e =
      ⊎_elim (λ p. below (nle→lt lo (fin s m d) (number_of lo low) tt (failed (le lo (fin s m d)) p)))
      (λ p. above (nle→lt (fin s m d) hi tt (number_of hi high) (failed (le (fin s m d) hi) p)))
      ((either_fails (le lo (fin s m d)) (le (fin s m d) hi)).0 e)

  bad→outside : (x : Float) → Bad lo hi x → inside lo hi x ≡ false
  bad→outside x (not-a-number e) = rw e (never lo hi)
  bad→outside x (infinite s e) = rw e (far lo hi s low high)
  bad→outside x (below h) = unfold inside in (either_fails (le lo x) (le x hi)).1 (inl (fails (le lo x) (lt→nle x lo h)))
  bad→outside x (above h) = unfold inside in (either_fails (le lo x) (le x hi)).1 (inr (fails (le x hi) (lt→nle hi x h)))

  pub outside↔bad : (x : Float) → (inside lo hi x ≡ false) ↔ Bad lo hi x
  outside↔bad x = (outside→bad x, bad→outside x)

-- ---- the numbers of a job
reach↔bad : (x : Float) → (inside (neg reach) reach x ≡ false) ↔ Bad (neg reach) reach x
unfolding finite neg of_bits
reach↔bad = outside↔bad (neg reach) reach tt tt

bulge↔bad : (x : Float) → (inside (neg bulge_limit) bulge_limit x ≡ false) ↔ Bad (neg bulge_limit) bulge_limit x
unfolding finite neg of_bits
bulge↔bad = outside↔bad (neg bulge_limit) bulge_limit tt tt

pub offset↔bad : (x : Float) → (good_offset x ≡ false) ↔ Bad (neg reach) reach x
unfolding good_offset
offset↔bad = reach↔bad

pub eps↔bad : (x : Float) → (good_eps x ≡ false) ↔ Bad least_eps most_eps x
unfolding good_eps finite of_bits
eps↔bad = outside↔bad least_eps most_eps tt tt

ratio↔bad : (x : Float) → (inside least_ratio most_ratio x ≡ false) ↔ Bad least_ratio most_ratio x
unfolding finite of_bits
ratio↔bad = outside↔bad least_ratio most_ratio tt tt

-- corners are bad where they are pointed by a bad ratio
abbrev pub BadCorners : Corners → Type 0
BadCorners c = (ratio : Float) × (c ≡ Pointed ratio) × Bad least_ratio most_ratio ratio

corners→ : (c : Corners) → good_corners c ≡ false → BadCorners c
corners→ Round e = absurd (subst T e tt)
corners→ (Pointed ratio) e = (ratio, refl, (ratio↔bad ratio).0 e)

pub corners↔bad : (c : Corners) → (good_corners c ≡ false) ↔ BadCorners c
corners↔bad c = (corners→ c, λ (b : BadCorners c). ap good_corners b.1 ∙ (ratio↔bad b.0).1 b.2)

module _ (v : PlineVertex) where
  vertex→ : good_vertex v ≡ false → BadVertex v
  unfolding good_vertex
  vertex→ e =
      ⊎_elim (λ p. ⊎_elim (λ q. by-x ((reach↔bad v.x).0 q)) (λ q. by-y ((reach↔bad v.y).0 q)) ((either_fails (inside (neg reach) reach v.x) (inside (neg reach) reach v.y)).0 p))
      (λ p. by-bulge ((bulge↔bad v.bulge).0 p))
      ((either_fails (inside (neg reach) reach v.x and inside (neg reach) reach v.y) (inside (neg bulge_limit) bulge_limit v.bulge)).0 e)

  vertex← : BadVertex v → good_vertex v ≡ false
  unfolding good_vertex
  vertex← (by-x p) = (either_fails _ _).1 (inl ((either_fails _ _).1 (inl ((reach↔bad v.x).1 p))))
  vertex← (by-y p) = (either_fails _ _).1 (inl ((either_fails _ _).1 (inr ((reach↔bad v.y).1 p))))
  vertex← (by-bulge p) = (either_fails _ _).1 (inr ((bulge↔bad v.bulge).1 p))

  pub vertex↔bad : (good_vertex v ≡ false) ↔ BadVertex v
  vertex↔bad = (vertex→, vertex←)
