-- Each origin has its own number, and each number its own origin; and what a store does to the origins in a buffer. Assumes nothing.
use mathlib.Core.Path.{◌≡◌, refl, sym, ap, ◌∙◌}
use mathlib.Core.List.{List, [], ◌∷◌, ◌++◌}
use mathlib.Core.Bool.{Bool, true, false}
use Prim.Native.Nat.{ℕ, zero, suc, ◌+◌, ◌*◌, ◌/◌, ◌%◌}
use native.Mathlib.Omega.{arith}
use borrow.Author.Tests.{eq-eqb, ne_eqb, eqb-true, eqb-false}
use lib.Dec.{eqb}
use lib.ListN.{length, set, take, drop, replicate, length-map}
use Rattle.floats.specs.Choice.{when◌give◌else◌}
use Rattle.floats.proofs.Choice.{yes, no}
use Rattle.moves.specs.declared.Origin.{Origin}
use Rattle.moves.specs.declared.Origin.TheVariants.{Span, Connector}
use Rattle.moves.specs.Made.{segment_of}
use Rattle.moves.specs.Origins.{code_of, origin_of, origins_in}

-- ---- in and out

pub origin-code : (o : Origin) → origin_of (code_of o) ≡ o
unfolding origin_of
origin-code (Span i) =
    let e : 2 * i.0 % 2 ≡ 0 = omega arith in
    let h : 2 * i.0 / 2 ≡ i.0 = omega arith in
    sym (yes _ _ _ (eq-eqb _ _ e) (ap (λ (n : ℕ). Span (record { 0 = n })) (sym h)))
origin-code (Connector i) =
    let e : (2 * i.0 + 1) % 2 ≡ 1 = omega arith in
    let h : (2 * i.0 + 1) / 2 ≡ i.0 = omega arith in
    sym (no _ _ _ (ne_eqb _ _ (λ (z : (2 * i.0 + 1) % 2 ≡ 0). omega arith)) (ap (λ (n : ℕ). Connector (record { 0 = n })) (sym h)))

pub code-origin : (c : ℕ) → code_of (origin_of c) ≡ c
unfolding origin_of when◌give◌else◌
code-origin c = by (eqb (c % 2) 0) refl
  where
    by : (t : Bool) → eqb (c % 2) 0 ≡ t → code_of (when t give Span (record { 0 = c / 2 }) else Connector (record { 0 = c / 2 })) ≡ c
    by true h = let e : c % 2 ≡ 0 = eqb-true _ _ h in omega arith
    by false h = omega (arith, eqb-false (c % 2) 0 h)

-- its segment is half of it
pub segment-half : (c : ℕ) → segment_of (origin_of c) ≡ c / 2
unfolding origin_of when◌give◌else◌
segment-half c = by (eqb (c % 2) 0)
  where
    by : (t : Bool) → segment_of (when t give Span (record { 0 = c / 2 }) else Connector (record { 0 = c / 2 })) ≡ c / 2
    by true = refl
    by false = refl

-- two buffers with the same origins hold the same numbers
pub origins-only : (cs ds : List ℕ) → origins_in cs ≡ origins_in ds → cs ≡ ds
unfolding origins_in
origins-only [] [] h = refl
origins-only [] (d ∷ ds) h = cc
origins-only (c ∷ cs) [] h = cc
origins-only (c ∷ cs) (d ∷ ds) h =
    let first : origin_of c ≡ origin_of d = cc in
    let others : origins_in cs ≡ origins_in ds = cc in
    cc (code-origin c, code-origin d, origins-only cs ds others)

-- ---- in a buffer

pub origins-length : (cs : List ℕ) → length (origins_in cs) ≡ length cs
unfolding origins_in
origins-length cs = length-map cs origin_of

pub origins_alike : (cs ds : List ℕ) → length ds ≡ length cs → length (origins_in ds) ≡ length (origins_in cs)
origins_alike cs ds h = origins-length ds ∙ h ∙ sym (origins-length cs)

pub lent_alike : (cs ds : List ℕ) → length (origins_in ds) ≡ length (origins_in cs) → length ds ≡ length cs
lent_alike cs ds h = sym (origins-length ds) ∙ h ∙ origins-length cs

pub origins-set : (cs : List ℕ) (k c : ℕ) → origins_in (set cs k c) ≡ set (origins_in cs) k (origin_of c)
unfolding origins_in
origins-set [] k c = refl
origins-set (x ∷ cs) zero c = refl
origins-set (x ∷ cs) (suc k) c = ap (λ (t : List Origin). origin_of x ∷ t) (origins-set cs k c)

pub origins-append : (cs ds : List ℕ) → origins_in (cs ++ ds) ≡ origins_in cs ++ origins_in ds
unfolding origins_in
origins-append [] ds = refl
origins-append (c ∷ cs) ds = ap (λ (t : List Origin). origin_of c ∷ t) (origins-append cs ds)

pub origins-take : (k : ℕ) (cs : List ℕ) → origins_in (take k cs) ≡ take k (origins_in cs)
unfolding origins_in
origins-take zero cs = refl
origins-take (suc k) [] = refl
origins-take (suc k) (c ∷ cs) = ap (λ (t : List Origin). origin_of c ∷ t) (origins-take k cs)

pub origins-drop : (k : ℕ) (cs : List ℕ) → origins_in (drop k cs) ≡ drop k (origins_in cs)
unfolding origins_in
origins-drop zero cs = refl
origins-drop (suc k) [] = refl
origins-drop (suc k) (c ∷ cs) = origins-drop k cs

pub origins-same : (n c : ℕ) → origins_in (replicate n c) ≡ replicate n (origin_of c)
unfolding origins_in
origins-same zero c = refl
origins-same (suc n) c = ap (λ (t : List Origin). origin_of c ∷ t) (origins-same n c)
