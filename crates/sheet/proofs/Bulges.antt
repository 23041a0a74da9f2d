-- The bulge of a turn's span may be written after the strokes of the turn are stored (`later`); its place is below the count of strokes then (`later-placed`). Assumes nothing.
use mathlib.Core.Path.{◌≡◌, refl, sym, ap, ◌∙◌}
use mathlib.Core.Bool.{Bool, true, false, false≢true}
use mathlib.Core.List.{List, [], ◌∷◌, ◌++◌}
use Prim.Native.Nat.{ℕ, zero as none, suc, ◌<◌, ◌≤◌}
use native.Mathlib.Omega.{arith}
use lib.Dec.{eqb}
use lib.ListN.{length, set, length-append}
use lib.Ieee.{Float, of_bits}
use Rattle.floats.specs.Binary64.{zero}
use Rattle.floats.specs.Choice.{when◌give◌else◌, ◌and◌}
use Rattle.floats.specs.Size.{finite}
use Rattle.angles.specs.Angle.{bulge_of}
use Rattle.segments.specs.declared.PlineVertex.{PlineVertex}
use Rattle.segments.specs.InnerSteps.{bulge_by}
use Rattle.moves.specs.declared.Move.{Move}
use Rattle.moves.specs.declared.Pen.{Pen}
use Rattle.moves.specs.declared.Stroke.{Stroke}
use Rattle.moves.specs.Drawing.{finite_vertex}
use Rattle.moves.specs.InnerSteps.{stroke_of, pen_after, step_of, with_bulge}
use Rattle.walk.specs.declared.Turned.{Turned}
use Rattle.walk.specs.InnerSteps.{after_span, made_by, drawn_by, strokes_by}
use Rattle.sheet.specs.declared.Later.{Later}
use Rattle.sheet.specs.InnerSteps.{Held, Reached, Laid, put_at, stored, stores, bulging, bulge_at, bulged_at, reached_later, bulged, later_of}
use Rattle.sheet.proofs.Stored.{stores-counted}

-- ---- a stored vertex
-- is stored with a bulge, or with another one and then that
bulging-over : (vs : List PlineVertex) (k : ℕ) (x y a b : Float) → set vs k (record { x = x; y = y; bulge = b }) ≡ bulging k b (set vs k (record { x = x; y = y; bulge = a }))
unfolding bulging
bulging-over [] k x y a b = refl
bulging-over (v ∷ vs) none x y a b = refl
bulging-over (v ∷ vs) (suc k) x y a b = ap (λ (t : List PlineVertex). v ∷ t) (bulging-over vs k x y a b)

put-over : (h : Held) (k : ℕ) (x y a b : Float) → put_at h k (record { x = x; y = y; bulge = b }) ≡ bulge_at (put_at h k (record { x = x; y = y; bulge = a })) k b
put-over h k x y a b = rw (bulging-over h.made k x y a b)

-- a vertex of a later place leaves it
bulging-apart : (vs : List PlineVertex) (k j : ℕ) (v : PlineVertex) (b : Float) → k < j → set (bulging k b vs) j v ≡ bulging k b (set vs j v)
unfolding bulging
bulging-apart [] k j v b h = refl
bulging-apart (u ∷ vs) k none v b h = absurd (omega arith)
bulging-apart (u ∷ vs) none (suc j) v b h = refl
bulging-apart (u ∷ vs) (suc k) (suc j) v b h = ap (λ (t : List PlineVertex). u ∷ t) (bulging-apart vs k j v b (omega arith))

put-apart : (l : Held) (k j : ℕ) (v : PlineVertex) (b : Float) → k < j → put_at (bulge_at l k b) j v ≡ bulge_at (put_at l j v) k b
put-apart l k j v b h = rw (bulging-apart l.made k j v b h)

finite-zero : finite zero ≡ true
unfolding finite of_bits
finite-zero = refl

pub swap : (a b c : Bool) → (a and (b and c)) ≡ (b and (a and c))
unfolding ◌and◌
swap true b c = refl
swap false true c = refl
swap false false c = refl

-- zero is finite, so that another bulge alone decides
last-alone : (a b c : Bool) → (a and b and c) ≡ (b and (a and true and c))
unfolding ◌and◌
last-alone true b c = refl
last-alone false true c = refl
last-alone false false c = refl

-- ---- what is left counted as written, or nothing left
pub reached-none : (r : Later) (p : Reached) → r.due ≡ false → reached_later r p ≡ p
unfolding when◌give◌else◌
reached-none r p h = rw h

pub reached-due : (r : Later) (p : Reached) → r.due ≡ true
    → reached_later r p ≡ record { strokes = p.strokes; marks = p.marks; finite = finite (bulge_of r.sweep) and p.finite }
unfolding when◌give◌else◌
reached-due r p h = rw h

-- ---- a stroke, and those after it
one_more : (s : Stroke) (l : Laid) → l.places.strokes < (stored s l).places.strokes
unfolding stored
one_more s l = omega arith

module _ (k : ℕ) (sweep : Float) where
  abbrev left : Bool → Later
  left due = record { due = due; place = k; sweep = sweep }

  bulged-none : (l : Laid) → bulged (left false) l ≡ l
  unfolding bulged bulged_at when◌give◌else◌
  bulged-none l = refl

  stored-after : (s : Stroke) (l : Laid) → k < l.places.strokes → stored s (bulged (left true) l) ≡ bulged (left true) (stored s l)
  unfolding stored bulged bulged_at when◌give◌else◌
  stored-after s l h =
      let v = put-apart l.buffers.vertices k l.places.strokes s.vertex (bulge_of sweep) h in
      let f = swap (finite_vertex s.vertex) (finite (bulge_of sweep)) l.places.finite in
      rw (v, f)

  stores-after : (ss : List Stroke) (l : Laid) → k < l.places.strokes → stores ss (bulged (left true) l) ≡ bulged (left true) (stores ss l)
  unfolding stores
  stores-after [] l h = refl
  stores-after (s ∷ ss) l h = let m = one_more s l in rw (stored-after s l h) (stores-after ss (stored s l) (omega arith))

stored-straight : (pen : Pen) (m : Move) (sweep : Float) (l : Laid) → m.bulge ≡ zero
    → stored (stroke_of pen (with_bulge (bulge_of sweep) m)) l ≡ bulged (left l.places.strokes sweep true) (stored (stroke_of pen m) l)
unfolding stored bulged bulged_at when◌give◌else◌ finite_vertex
stored-straight pen m sweep l z =
    let v = put-over l.buffers.vertices l.places.strokes pen.last.x pen.last.y zero (bulge_of sweep) in
    let f = last-alone (finite pen.last.x and finite pen.last.y) (finite (bulge_of sweep)) l.places.finite in
    rw (z, finite-zero, v, f)

-- ---- the strokes of a turn: of its span and its connectors
module _ (t : Turned) (ε : Float) (l : Laid) (z : t.span.bulge ≡ zero) where
  pub later : stores (strokes_by t.walk.leading t.walk.pen (with_bulge (bulge_by t.curved t.sweep) t.span ∷ after_span t) ε) l
      ≡ bulged (later_of l.places.strokes t ε) (stores (strokes_by t.walk.leading t.walk.pen (made_by t) ε) l)
  unfolding strokes_by drawn_by step_of pen_after
  later = by t.curved (eqb t.walk.leading 0 and (step_of t.walk.pen t.span ε).kept)
    where
      m : Move
      m = t.span

      rest : List Stroke
      rest = strokes_by t.walk.leading (step_of t.walk.pen t.span ε).pen (after_span t) ε

      by : (curved d : Bool) → stores ((when d give stroke_of t.walk.pen (with_bulge (bulge_by curved t.sweep) m) ∷ [] else []) ++ rest) l
          ≡ bulged (left l.places.strokes t.sweep (curved and d)) (stores ((when d give stroke_of t.walk.pen m ∷ [] else []) ++ rest) l)
      by false d = unfold bulge_by when◌give◌else◌ ◌and◌ in rw z (sym (bulged-none _ t.sweep _))
      by true false = unfold when◌give◌else◌ ◌and◌ in sym (bulged-none _ _ _)
      by true true =
          unfold bulge_by when◌give◌else◌ ◌and◌ stores in ap (stores rest) (stored-straight t.walk.pen m t.sweep l z)
          ∙ stores-after l.places.strokes t.sweep rest (stored (stroke_of t.walk.pen m) l) (one_more (stroke_of t.walk.pen m) l)

pub later-placed : (t : Turned) (ε : Float) (l : Laid) → (later_of l.places.strokes t ε).due ≡ true
    → l.places.strokes < (stores (strokes_by t.walk.leading t.walk.pen (made_by t) ε) l).places.strokes
unfolding strokes_by
later-placed t ε l h =
    let first = step_of t.walk.pen t.span ε in
    let c = stores-counted (strokes_by t.walk.leading t.walk.pen (made_by t) ε) l in
    let n : 1 ≤ length (drawn_by t.walk.leading first) = unfold drawn_by in some t.curved (eqb t.walk.leading 0 and first.kept) first.stroke h in
    let a = length-append (drawn_by t.walk.leading first) (strokes_by t.walk.leading first.pen (after_span t) ε) in
    omega arith
  where
    some : (a b : Bool) (s : Stroke) → (a and b) ≡ true → 1 ≤ length (when b give s ∷ [] else [])
    some true true s e = unfold when◌give◌else◌ in omega arith
    some true false s e = absurd (false≢true (unfold ◌and◌ in e))
    some false b s e = absurd (false≢true (unfold ◌and◌ in e))
