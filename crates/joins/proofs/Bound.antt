-- The round connector's bulge is at most 1 in size where it is a number, and never of the offset's sign, for any numbers that come in (`connector_bound`). Assumes nothing.
use mathlib.Core.Path.{◌≡◌, refl, sym, ap, ◌∙◌, subst}
use Prim.Native.Nat.{ℕ, ◌-◌, ◌*◌, ◌≤◌, ◌<◌}
use native.Mathlib.Nat.{mul-pos}
use native.Mathlib.Omega.{arith}
use mathlib.Core.Bool.{Bool, true, false, not}
use lib.IntN.{pos}
use lib.Dec.{T, T_not, lit<}
use lib.Ieee.{Float, nan, inf, fin, binary64, up, down, round, neg, add, sub, div, lt, le, fits, is_nan, of_bits}
use lib.Ieee.Fits.{add-fits, down_pos}
use lib.Ieee.Positive.{above_of_le}
use Rattle.floats.specs.Choice.{when◌give◌else◌}
use Rattle.floats.specs.Binary64.{◌⊕◌, ◌⊖◌, ◌⊗◌, ◌⊘◌, zero, one, two}
use Rattle.floats.specs.Size.{abs_of}
use Rattle.floats.specs.Root.{sqrt_of}
use Rattle.floats.proofs.Order.{number, number_of, clear, nonneg, Clear, top, finite, value, clear_case, nonneg→clear, clear→number, nonneg_under, clear_above, le-fin, fin-le, at_zero, le_through, le-number_l, le-number-r, lt→le, nlt→le, lt→nle, zero-least, round-at-least, round-at-most}
use Rattle.floats.proofs.Monotone.{one-fits, two_fits, add_mono, add-above_l, add-above-r, add_grows_l, sub_is, add-neg, sub-neg, mul_clear, div_unit}
use Rattle.floats.proofs.RootOrder.{root_clear, root-of_double}
use Rattle.floats.proofs.Signs.{abs_neg, abs_clear, abs-of_clear}
use Rattle.vectors.specs.declared.Vector2.{Vector2}
use Rattle.vectors.specs.Plane.{◌⊟◌, dot, cross, normalized}
use Rattle.joins.specs.Connector.{clamp_cos, clamp_sin, bulge_size, connector_bulge_of}
use Rattle.joins.specs.InnerSteps.{ConnectorBound}

-- ---- what the clamps give
cos_in : (c : Float) → T (number c) → T (le (neg one) (clamp_cos c)) × T (le (clamp_cos c) one)
unfolding clamp_cos when◌give◌else◌ neg of_bits
cos_in c p = go (lt c (neg one)) (lt one c) (nlt→le c (neg one) p tt) (nlt→le one c tt p)
  where
    go : (a b : Bool) → (T (not a) → T (le (neg one) c)) → (T (not b) → T (le c one)) → T (le (neg one) (when a give neg one else when b give one else c)) × T (le (when a give neg one else when b give one else c) one)
    go true b h k = unfold le in (tt, tt)
    go false true h k = unfold le in (tt, tt)
    go false false h k = (h tt, k tt)

sin_in : (s : Float) → T (clear s) → T (nonneg (clamp_sin s)) × T (le (clamp_sin s) one)
unfolding clamp_sin when◌give◌else◌ of_bits
sin_in s p = go (lt one s) (nlt→le one s tt (clear→number s p))
  where
    go : (b : Bool) → (T (not b) → T (le s one)) → T (nonneg (when b give one else s)) × T (le (when b give one else s) one)
    go true k = (tt, unfold le in tt)
    go false k = (nonneg_under s one p tt (k tt), k tt)

-- ---- u = 1 + |cos| is a value of the format from 1 to 2
abbrev OneToTwo : Float → Type 0
OneToTwo u = T (fits binary64 u) × T (le one u) × T (le u two)

one_to_two_nonneg : (u : Float) → OneToTwo u → T (nonneg u)
unfolding of_bits
one_to_two_nonneg u n = nonneg_under u two (clear_above one u tt n.1) tt n.2

one-one : one ⊕ one ≡ two
unfolding add of_bits
one-one = refl

one-and : (y : Float) → T (nonneg y) → T (le y one) → OneToTwo (one ⊕ y)
unfolding of_bits
one-and y p h = (
  add-fits binary64 one y,
  add_grows_l binary64 one y tt (one-fits binary64) (nonneg→clear y p),
  subst (λ (z : Float). T (le (one ⊕ y) z)) one-one (add_mono binary64 one one y one tt tt p tt (unfold le in tt) h),
)

-- cos ≥ 0, which holds at -0 too
near_cos : (c : Float) → T (le zero c) → T (le c one) → OneToTwo (one ⊕ c)
unfolding neg of_bits
near_cos nan h k = absurd (unfold le in k)
near_cos (inf true) h k = absurd (unfold le in h)
near_cos (inf false) h k = absurd (unfold le in k)
near_cos (fin false m e) h k = one-and (fin false m e) tt k
near_cos (fin true m e) h k =
    let z : m * up e * 1 ≡ 0 = (le-fin false 0 (pos 0) true m e h).1 in
    let below1 : T (le (fin false m e) one) = fin-le false m e false 1 (pos 0) (at_zero (m * up e * 1) (1 * 1 * down e) z) in
    let is : one ⊕ fin true m e ≡ round binary64 false (1 * down e - m * up e * 1) (1 * down e) = add-neg binary64 one (fin false m e) ∙ sub_is binary64 one (fin false m e) tt tt below1 in
    let D : 0 < 1 * down e = mul-pos (lit< tt) (down_pos e) in (
      add-fits binary64 one (fin true m e),
      subst (λ (x : Float). T (le one x)) (sym is) (round-at-least binary64 one (1 * down e - m * up e * 1) (1 * down e) tt (one-fits binary64) D (ge_one (1 * down e) (m * up e * 1) z)),
      subst (λ (x : Float). T (le x two)) (sym is) (round-at-most binary64 two (1 * down e - m * up e * 1) (1 * down e) tt (two_fits binary64) D (le-two (1 * down e) (m * up e * 1))),
    )
  where
    ge_one : (d z : ℕ) → z ≡ 0 → 1 * d ≤ (d - z) * 1
    ge_one d z e = omega arith

    le-two : (d z : ℕ) → (d - z) * 1 ≤ 2 * d
    le-two d z = omega arith

-- cos < 0
near-neg_cos : (c : Float) → T (number c) → T (not (le zero c)) → T (le (neg one) c) → OneToTwo (one ⊖ c)
unfolding neg of_bits
near-neg_cos nan p n h = absurd p
near-neg_cos (inf true) p n h = absurd (unfold le in h)
near-neg_cos (inf false) p n h = absurd (unfold le in n)
near-neg_cos (fin false m e) p n h = absurd (T_not (le zero (fin false m e)) n (zero-least (fin false m e) tt))
near-neg_cos (fin true m e) p n h =
    subst (λ (z : Float). OneToTwo z) (sym (sub-neg binary64 one m e))
    (one-and (fin false m e) tt (fin-le false m e false 1 (pos 0) (le-fin true 1 (pos 0) true m e h)))

-- ---- the two forms: the divisor is 1 at least, and no less than what is divided
abbrev Unit01 : Float → Type 0
Unit01 r = T (clear r) × T (le r one)

root-of : (u : Float) → OneToTwo u → T (clear (sqrt_of (two ⊗ u)))
unfolding of_bits
root-of u n = root_clear (two ⊗ u) (mul_clear binary64 two u tt (one_to_two_nonneg u n))

quarter_in : (c s : Float) → T (le zero c) → T (le c one) → T (nonneg s) → T (le s one) → Unit01 (s ⊘ (one ⊕ c ⊕ sqrt_of (two ⊗ (one ⊕ c))))
unfolding of_bits
quarter_in c s h k p l =
    let u = one ⊕ c in
    let n : OneToTwo u = near_cos c h k in
    let r = sqrt_of (two ⊗ u) in
    let g : T (le one (u ⊕ r)) = add-above_l binary64 one u r tt (one-fits binary64) (nonneg→clear u (one_to_two_nonneg u n)) (root-of u n) n.1 in
    div_unit binary64 s (u ⊕ r) p (above_of_le one (u ⊕ r) tt g) (le_through s one (u ⊕ r) l g)

half_in : (c s : Float) → T (number c) → T (not (le zero c)) → T (le (neg one) c) → T (nonneg s) → Unit01 ((one ⊖ c) ⊘ (s ⊕ sqrt_of (two ⊗ (one ⊖ c))))
unfolding of_bits
half_in c s i h k p =
    let u = one ⊖ c in
    let n : OneToTwo u = near-neg_cos c i h k in
    let q = one_to_two_nonneg u n in
    let r = sqrt_of (two ⊗ u) in
    let g : T (le u (s ⊕ r)) = add-above-r binary64 u s r q n.0 (nonneg→clear s p) (root-of u n) (root-of_double u q n.0 n.2) in
    div_unit binary64 u (s ⊕ r) q (above_of_le one (s ⊕ r) tt (le_through one u (s ⊕ r) n.1 g)) g

size_in : (c s : Float) → T (le (neg one) c) → T (le c one) → T (nonneg s) → T (le s one) → Unit01 (bulge_size c s)
unfolding bulge_size when◌give◌else◌
size_in c s h k p l = go (le zero c) _ _ (λ (t : T (le zero c)). quarter_in c s t k p l) (λ (t : T (not (le zero c))). half_in c s (le-number_l c one k) t h p)
  where
    go : (b : Bool) (x y : Float) → (T b → Unit01 x) → (T (not b) → Unit01 y) → Unit01 (when b give x else y)
    go true x y u v = u tt
    go false x y u v = v tt

-- ---- a NaN goes in, and a NaN comes out
div-nan : (x : Float) → x ⊘ nan ≡ nan
unfolding div
div-nan nan = refl
div-nan (inf s) = refl
div-nan (fin s m e) = refl

both-nan : (b : Bool) (x y : Float) → (T b → x ≡ nan) → y ≡ nan → when b give x else y ≡ nan
unfolding when◌give◌else◌
both-nan true x y p q = p tt
both-nan false x y p q = q

clamped_nan : clamp_cos nan ≡ nan
unfolding clamp_cos when◌give◌else◌ lt of_bits
clamped_nan = refl

nan_cos : (s : Float) → bulge_size nan s ≡ nan
unfolding bulge_size
nan_cos s = both-nan (le zero nan) _ _ (λ (t : T (le zero nan)). absurd (le-number-r zero nan t)) (over (sqrt_of (two ⊗ (one ⊖ nan))))
  where
    over : (r : Float) → (one ⊖ nan) ⊘ (s ⊕ r) ≡ nan
    over r = unfold sub div of_bits in refl

clamped_nan-size : clamp_sin (abs_of nan) ≡ nan
unfolding clamp_sin abs_of when◌give◌else◌ lt of_bits
clamped_nan-size = refl

nan_sin : (c : Float) → bulge_size c nan ≡ nan
unfolding bulge_size
nan_sin c = both-nan (le zero c) _ _ (λ (t : T (le zero c)). left (one ⊕ c ⊕ sqrt_of (two ⊗ (one ⊕ c)))) (right (one ⊖ c) (sqrt_of (two ⊗ (one ⊖ c))))
  where
    left : (x : Float) → nan ⊘ x ≡ nan
    left x = unfold div in refl

    right : (x r : Float) → x ⊘ (nan ⊕ r) ≡ nan
    right x r = let e : nan ⊕ r ≡ nan = unfold add in refl in ap (λ (z : Float). x ⊘ z) e ∙ div-nan x

-- ---- the size: a NaN, or from 0 to 1
abbrev size_of : Float → Float → Float
size_of d x = bulge_size (clamp_cos d) (clamp_sin (abs_of x))

data Sized (r : Float) : Type 0 where
  lost : r ≡ nan → Sized r
  within : T (clear r) → T (le r one) → Sized r

numbers_in_lem : (d x : Float) → T (number d) → T (number x) → Sized (size_of d x)
numbers_in_lem d x p q =
    let c = cos_in d p in
    let s = sin_in (abs_of x) (abs_clear x q) in
    let r = size_in (clamp_cos d) (clamp_sin (abs_of x)) c.0 c.1 s.0 s.1 in
    within r.0 r.1

nan-cross : (d : Float) → Sized (size_of d nan)
nan-cross d = lost (ap (λ (s : Float). bulge_size (clamp_cos d) s) clamped_nan-size ∙ nan_sin (clamp_cos d))

sized : (d x : Float) → Sized (size_of d x)
sized nan x = lost (ap (λ (c : Float). bulge_size c (clamp_sin (abs_of x))) clamped_nan ∙ nan_cos (clamp_sin (abs_of x)))
sized (inf s) nan = nan-cross (inf s)
sized (inf s) (inf t) = numbers_in_lem (inf s) (inf t) tt tt
sized (inf s) (fin t n d) = numbers_in_lem (inf s) (fin t n d) tt tt
sized (fin s m e) nan = nan-cross (fin s m e)
sized (fin s m e) (inf t) = numbers_in_lem (fin s m e) (inf t) tt tt
sized (fin s m e) (fin t n d) = numbers_in_lem (fin s m e) (fin t n d) tt tt

-- ---- the sign: the size itself or its negative
turned-size : (b : Bool) (r : Float) → T (clear r) → abs_of (when b give neg r else r) ≡ r
unfolding when◌give◌else◌
turned-size true r p = abs_neg r ∙ abs-of_clear r p
turned-size false r p = abs-of_clear r p

turned-nan : (b : Bool) (r : Float) → r ≡ nan → when b give neg r else r ≡ nan
unfolding when◌give◌else◌
turned-nan true r e = ap neg e ∙ (unfold neg in refl)
turned-nan false r e = e

at_most_one : (b : Bool) (r : Float) → Sized r → is_nan (when b give neg r else r) ≡ false → T (le (abs_of (when b give neg r else r)) one)
at_most_one b r (lost e) n = absurd (subst (λ (z : Float). T (number z)) (turned-nan b r e) (number_of (when b give neg r else r) n))
at_most_one b r (within p l) n = subst (λ (z : Float). T (le z one)) (sym (turned-size b r p)) l

negative_not-above : (r : Float) → T (clear r) → T (lt zero (neg r)) → ⊥
unfolding lt neg of_bits
negative_not-above r p h = go (clear_case r p) h
  where
    go : {r : Float} → Clear r → T (lt zero (neg r)) → ⊥
    go top h = h
    go (finite (value m e)) h = h

-- a NaN is neither above nor below
nan-above : (r : Float) → r ≡ nan → T (lt zero r) → ⊥
unfolding lt of_bits
nan-above r e h = subst (λ (z : Float). T (lt zero z)) e h

nan-below : (r : Float) → r ≡ nan → T (lt r zero) → ⊥
unfolding lt
nan-below r e h = subst (λ (z : Float). T (lt z zero)) e h

not-above : (b : Bool) (r : Float) → T b → Sized r → T (lt zero (when b give neg r else r)) → ⊥
not-above b r t (lost e) h = nan-above (when b give neg r else r) (turned-nan b r e) h
not-above true r t (within p l) h = negative_not-above r p (unfold when◌give◌else◌ in h)
not-above false r t (within p l) h = t

not-below : (b : Bool) (r : Float) → (T b → ⊥) → Sized r → T (lt (when b give neg r else r) zero) → ⊥
not-below b r t (lost e) h = nan-below (when b give neg r else r) (turned-nan b r e) h
not-below true r t (within p l) h = t tt
not-below false r t (within p l) h = lt→nle r zero (unfold when◌give◌else◌ in h) (zero-least r p)

-- ---- the theorem
by-offset : (offset r : Float) → Sized r → ConnectorBound offset (when le zero offset give neg r else r)
by-offset offset r z = record {
  small = at_most_one (le zero offset) r z;
  not_both_above = λ (o : T (lt zero offset)). not-above (le zero offset) r (lt→le zero offset o) z;
  not_both_below = λ (o : T (lt offset zero)). not-below (le zero offset) r (lt→nle offset zero o) z;
}

pub connector_bound : (offset : Float) (currentEnd nextStart shared : Vector2) → ConnectorBound offset (connector_bulge_of offset currentEnd nextStart shared)
unfolding connector_bulge_of
connector_bound offset currentEnd nextStart shared =
    let a = normalized (currentEnd ⊟ shared) in
    let b = normalized (nextStart ⊟ shared) in
    by-offset offset (size_of (dot a b) (cross a b)) (sized (dot a b) (cross a b))
