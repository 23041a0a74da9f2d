-- Origins in their buffer: one stored, places set to zero, and the spans of a copy. Assumes nothing.
use mathlib.Core.Path.{◌≡◌, refl, sym, ap, ◌∙◌}
use mathlib.Core.List.{List}
use Prim.Native.Nat.{ℕ, ◌+◌, ◌<◌, ◌≤◌}
use native.Mathlib.Nat.{zero-add}
use lib.ListN.{length, get_or, set}
use Rattle.floats.specs.Choice.{when◌give◌else◌}
use Rattle.moves.specs.declared.Origin.{Origin}
use Rattle.moves.specs.declared.Origin.TheVariants.{Span}
use Rattle.moves.specs.Origins.{code_of, origin_of, origins_in}
use Rattle.moves.proofs.Origins.{origin-code, origins-length, origins-set, origins-append, origins-take, origins-drop, origins-same}
use Rattle.walk.specs.Walk.{spans_from}
use Rattle.walk.proofs.Origins.{length_spans, span-at}
use Rattle.sheet.specs.Buffers.{no_origin}
use Rattle.sheet.specs.InnerSteps.{cleared, over}
use Rattle.sheet.proofs.Writing.{Writing, writing_none, copying_turn, copying_done}

-- an origin's number stored is the origin stored
pub origin-stored : (cs : List ℕ) (k : ℕ) (o : Origin) {c : ℕ} → c ≡ code_of o → origins_in (set cs k c) ≡ set (origins_in cs) k o
origin-stored cs k o h = origins-set cs k _ ∙ ap (set (origins_in cs) k) (ap origin_of h ∙ origin-code o)

zero-span : origin_of 0 ≡ no_origin
unfolding origin_of when◌give◌else◌
zero-span = refl

pub origins-cleared : (from count : ℕ) (cs : List ℕ) → origins_in (cleared 0 from count cs) ≡ cleared no_origin from count (origins_in cs)
origins-cleared from count cs = simp (origins-append, origins-take, origins-drop, origins-same, zero-span)

-- ---- the spans of a copy

-- after k turns
abbrev pub Spanned : ℕ → List ℕ → ℕ → List ℕ → Type 0
Spanned count l₀ k l = Writing (spans_from 0 count) 0 count (origins_in l₀) k (origins_in l)

pub spanned_none : (count : ℕ) (l₀ : List ℕ) → Spanned count l₀ 0 l₀
spanned_none count l₀ = writing_none

module _ (l₀ l : List ℕ) {count k : ℕ} where
  pub spanned_turn : (m : List ℕ) → Spanned count l₀ k l → k < count → count ≤ length l₀ → origins_in m ≡ set (origins_in l) k (Span (record { 0 = k })) → Spanned count l₀ (k + 1) m
  spanned_turn m w t r h =
      let here : get_or (spans_from 0 count) k no_origin ≡ Span (record { 0 = k }) = span-at 0 count k no_origin t ∙ rw zero-add in
      let s = copying_turn no_origin w t (sym (length_spans 0 count)) (rw (origins-length l₀) r) in
      rw h (rw here at s)

  pub spanned_done : Spanned count l₀ k l → count ≤ k → origins_in l ≡ over (spans_from 0 count) (origins_in l₀)
  spanned_done w d = copying_done w d (sym (length_spans 0 count))
