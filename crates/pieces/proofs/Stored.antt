-- Strokes stored in rows: one stroke (`store-rows`), those of a vertex (`three-stored`), those of all vertices of a call (`went-drawn`), and the last ones (`ending-written`). The code
-- leaves the buffers with the pieces of the rules in their first places (`written_out`). Assumes nothing.
use mathlib.Core.Path.{◌≡◌, refl, sym, ap, subst, ◌∙◌}
use mathlib.Core.List.{List, [], ◌∷◌, ◌++◌, append-nil}
use mathlib.Core.Bool.{Bool, true, false}
use Prim.Native.Nat.{ℕ, suc, ◌+◌, ◌-◌, ◌≤◌}
use native.Mathlib.Omega.{arith}
use native.Mathlib.Nat.{add-zero, zero-add}
use native.Mathlib.Numerals.{add-one}
use lib.ListN.{length, get_or, set, length-append, length-map}
use lib.Seq.{sets, sets-eq}
use lib.Ieee.{Float}
use Rattle.floats.specs.Choice.{when◌give◌else◌, ◌and◌}
use Rattle.segments.specs.declared.PlineVertex.{PlineVertex}
use Rattle.moves.specs.declared.Stroke.{Stroke}
use Rattle.moves.specs.declared.Stepped.{Stepped}
use Rattle.moves.specs.Reason.{is_invalid}
use Rattle.source.specs.Source.{rows}
use Rattle.moves.specs.Origins.{origins_in}
use Rattle.moves.specs.Drawing.{Drawing, bit, mark}
use Rattle.walk.specs.InnerSteps.{drawn_by}
use Rattle.sheet.specs.declared.Places.{Places}
use Rattle.sheet.specs.Buffers.{buffers, padded}
use Rattle.sheet.specs.InnerSteps.{Loaned, SameLoans, lent, held_by, Contents, contents, held, fitting, making, blank, no_places, Laid, laid, stored, stores, Rooms, over, over_at, written}
use Rattle.sheet.specs.declared.lent.Marks.{Marks}
use Rattle.sheet.proofs.Holding.{lent-shown}
use Rattle.sheet.proofs.Stored.{stores-append}
use Rattle.sheet.proofs.Storing.{stores-last, stores-room, room_fewer}
use Rattle.course.specs.declared.Turning.{Turning}
use Rattle.course.specs.InnerSteps.{numbers_by, vertices_by, piece_by, strokes_in}
use Rattle.course.proofs.Strokes.{drawn-yes}
use Rattle.pieces.specs.Calls.{handed_out}

-- a stroke, if it is drawn
pub store-drawn : (st : Stepped) (l : Laid) → (when st.kept give stored st.stroke l else l) ≡ stores (drawn_by 0 st) l
unfolding drawn_by ◌and◌
store-drawn st l = sym (stores-last st.kept st.stroke l)

pub store-room : (st : Stepped) {l : Laid} → Rooms (length (drawn_by 0 st)) l → st.kept ≡ true → Rooms 1 l
store-room st {l} w h = subst (λ (ss : List Stroke). Rooms (length ss) l) (drawn-yes st h) w

-- ---- the strokes of a vertex

module _ (t : Turning) (l : Laid) where
  abbrev one : List Stroke
  one = drawn_by 0 t.span

  abbrev two : List Stroke
  two = drawn_by 0 t.tip

  abbrev three : List Stroke
  three = drawn_by 0 t.connector

  pub three-stored : stores three (stores two (stores one l)) ≡ stores (strokes_in t) l
  unfolding strokes_in
  three-stored = sym (stores-append one (two ++ three) l ∙ stores-append two three (stores one l))

  count : length (strokes_in t) ≡ length one + (length two + length three)
  unfolding strokes_in
  count = omega (arith, length-append one (two ++ three), length-append two three)

  module _ (w : Rooms (length (strokes_in t)) l) where
    pub first-room : Rooms (length one) l
    first-room = let e = count in room_fewer (omega arith) w

    all_room : Rooms (length two + length three) (stores one l)
    all_room = stores-room (length two + length three) one l (subst (λ n. Rooms n l) count w)

    pub second-room : {l' : Laid} → l' ≡ stores one l → Rooms (length two) l'
    second-room e = subst (Rooms (length two)) (sym e) (room_fewer (omega arith) all_room)

    pub third-room : {l' l'' : Laid} → l' ≡ stores one l → l'' ≡ stores two l' → Rooms (length three) l''
    third-room e f = subst (Rooms (length three)) (sym (f ∙ ap (stores two) e)) (stores-room (length three) two (stores one l) all_room)

-- ---- strokes stored one by one are the lists of their piece

index-more : (i : Bool) (is : List ℕ) (j k : ℕ) (ks : List ℕ) → sets (when i give set is j k else is) (j + bit i) ks ≡ sets is j (mark i k ks)
unfolding when◌give◌else◌
index-more true is j k ks = rw add-one
index-more false is j k ks = rw add-zero

index-count : (i : Bool) (j k : ℕ) (ks : List ℕ) → j + bit i + length ks ≡ j + length (mark i k ks)
index-count true j k ks = omega arith
index-count false j k ks = omega arith

pub record Rows (ss : List Stroke) (l l' : Laid) : Type 0 where
  pub strokes : l'.places.strokes ≡ l.places.strokes + length ss
  pub marks : l'.places.marks ≡ l.places.marks + length (numbers_by ss)
  pub vertices : l'.buffers.vertices ≡ making (sets l.buffers.vertices.made l.places.strokes (vertices_by ss)) l.buffers.vertices
  pub flags : l'.buffers.flags ≡ sets l.buffers.flags l.places.strokes (piece_by ss).flags
  pub indexes : l'.buffers.indexes ≡ sets l.buffers.indexes l.places.marks (numbers_by ss)
  pub origins : l'.buffers.origins ≡ sets l.buffers.origins l.places.strokes (piece_by ss).origins
  pub loans : l'.buffers.loans ≡ l.buffers.loans

pub stores-rows : (ss : List Stroke) (l : Laid) → Rows ss l (stores ss l)
unfolding stores numbers_by
stores-rows [] l = record { strokes = omega arith; marks = omega arith; vertices = refl; flags = refl; indexes = refl; origins = refl; loans = refl }
stores-rows (s ∷ ss) l =
    let i = is_invalid s.reason in
    let r = stores-rows ss (stored s l) in
    let o = add-one l.places.strokes in
    let x = index-more i l.buffers.indexes l.places.marks s.number.0 (numbers_by ss) in
    let c = index-count i l.places.marks s.number.0 (numbers_by ss) in
    record {
      strokes = r.strokes ∙ (unfold stored in omega arith);
      marks = r.marks ∙ (unfold stored in c);
      vertices = r.vertices ∙ (unfold stored in rw o);
      flags = r.flags ∙ (unfold stored in rw o);
      indexes = r.indexes ∙ (unfold stored in x);
      origins = r.origins ∙ (unfold stored in rw o);
      loans = r.loans ∙ (unfold stored in refl);
    }

pub numbers-few : (ss : List Stroke) → length (numbers_by ss) ≤ length ss
unfolding numbers_by
numbers-few [] = omega arith
numbers-few (s ∷ ss) = by (is_invalid s.reason) (numbers-few ss)
  where
    by : (i : Bool) → length (numbers_by ss) ≤ length ss → length (mark i s.number.0 (numbers_by ss)) ≤ suc (length ss)
    by true h = omega arith
    by false h = omega arith

over-all : {A : Type 0} (xs old : List A) → length xs ≤ length old → sets old 0 xs ≡ over xs old
over-all xs old h = sets-eq xs old 0 (rw zero-add h) ∙ rw zero-add

-- from the first places on, with room
pub stores-written : (ss : List Stroke) (p : Places) (b : Contents) → p ≡ no_places → Rooms (length ss) (laid p b) → (stores ss (laid p b)).buffers ≡ written (piece_by ss) b
stores-written ss p b e w =
    let r = stores-rows ss (laid p b) in
    let z : p.strokes ≡ 0 = ap (λ (q : Places). q.strokes) e in
    let y : p.marks ≡ 0 = ap (λ (q : Places). q.marks) e in
    let n = numbers-few ss in
    let lv = length-map ss (λ (s : Stroke). s.vertex) in
    let lf = length-map ss (λ (s : Stroke). bit (is_invalid s.reason)) in
    let lo = length-map ss (λ (s : Stroke). s.origin) in
    let v = over-all (vertices_by ss) b.vertices.made (omega (arith, w.vertices)) in
    let f = over-all (piece_by ss).flags b.flags (omega (arith, w.flags)) in
    let i = over-all (numbers_by ss) b.indexes (omega (arith, w.indexes)) in
    let o = over-all (piece_by ss).origins b.origins (omega (arith, w.origins)) in
    let vs : (stores ss (laid p b)).buffers.vertices ≡ over_at (vertices_by ss) b.vertices = r.vertices ∙ rw (z, v) in
    let fs : (stores ss (laid p b)).buffers.flags ≡ over (piece_by ss).flags b.flags = r.flags ∙ rw (z, f) in
    let is : (stores ss (laid p b)).buffers.indexes ≡ over (numbers_by ss) b.indexes = r.indexes ∙ rw (y, i) in
    let os : (stores ss (laid p b)).buffers.origins ≡ over (piece_by ss).origins b.origins = r.origins ∙ rw (z, o) in
    λ k. contents (vs k) (fs k) (is k) (os k) (r.loans k)

-- ---- a piece in the first places of the buffers, and all others as they were

padded_own : {A : Type 0} (z : A) (xs old : List A) → padded z (length xs) xs old ≡ over xs old
padded_own z xs old = let e : length xs - length xs ≡ 0 = omega arith in rw (e, append-nil xs)

module _ (l l' : Loaned) (m m' : Marks) (d : Drawing) where
  pub written_out : length d.vertices ≤ fitting (held l m) → held l' m' ≡ written d (held l m) → lent l' m' ≡ handed_out d (lent l m)
  unfolding handed_out
  written_out fits e =
      let v = lent-shown l l' (length d.vertices) d.vertices fits (ap (λ (b : Contents). b.vertices) e ∙ rw (padded_own blank d.vertices)) in
      let flags = ap (λ (b : Contents). b.flags) e in
      let indexes = ap (λ (b : Contents). b.indexes) e in
      let origins = ap (λ (b : Contents). b.origins) e in
      rw (v, flags, indexes, origins, padded_own, padded_own, padded_own)

  pub written_same : held l' m' ≡ written d (held l m) → SameLoans l m l' m'
  unfolding held_by
  written_same e = record { vertices = ap (λ (b : Contents). b.vertices.loans) e; marks = ap (λ (b : Contents). b.loans) e }
