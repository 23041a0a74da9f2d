-- Strokes stored one by one: those of kept moves leave the lists of a drawing, written over the buffers (`stores-drawn`). Assumes nothing.
use mathlib.Core.Path.{◌≡◌, refl, ◌∙◌}
use mathlib.Core.List.{List, [], ◌∷◌, ◌++◌}
use mathlib.Core.Bool.{Bool, true, false}
use Prim.Native.Nat.{ℕ, suc, ◌+◌, ◌≤◌}
use native.Mathlib.Nat.{add-zero, zero-add}
use native.Mathlib.Numerals.{add-one}
use native.Mathlib.Omega.{arith}
use lib.ListN.{length, set, length-set}
use lib.Seq.{sets, sets-eq}
use lib.Ieee.{is_nan, of_bits}
use Rattle.floats.specs.Binary64 as B
use Rattle.floats.specs.Choice.{when◌give◌else◌, ◌and◌}
use Rattle.vectors.specs.declared.Vector2.{Vector2}
use Rattle.segments.specs.Vertex.{vertex_at}
use Rattle.moves.specs.declared.Move.{Move}
use Rattle.moves.specs.declared.Stroke.{Stroke}
use Rattle.moves.specs.Reason.{is_invalid, invalid_move}
use Rattle.moves.specs.Drawing.{corners, flags_of, marks, mark, bit, origins_of, finite_vertex, all_finite}
use Rattle.moves.specs.InnerSteps.{strokes, sure}
use Rattle.moves.proofs.Laws.{bit-small}
use Rattle.moves.proofs.Shapes.{path, path_fits}
use Rattle.sheet.specs.InnerSteps.{Contents, fitting, making, no_places, Reached, Laid, laid, stored, stores, Alike, over, written}

pub stores-append : (ss ts : List Stroke) (l : Laid) → stores (ss ++ ts) l ≡ stores ts (stores ss l)
unfolding stores
stores-append [] ts l = refl
stores-append (s ∷ ss) ts l = stores-append ss ts (stored s l)

-- n strokes take n places, and at most n of the indexes
pub record Counted (n : ℕ) (p q : Reached) : Type 0 where
  pub strokes : q.strokes ≡ p.strokes + n
  pub marks : q.marks ≤ p.marks + n

pub stores-counted : (ss : List Stroke) (l : Laid) → Counted (length ss) l.places (stores ss l).places
unfolding stores stored
stores-counted [] l = record { strokes = omega arith; marks = omega arith }
stores-counted (s ∷ ss) l =
    let c = stores-counted ss (stored s l) in
    let b = bit-small (is_invalid s.reason) in
    record { strokes = omega arith; marks = omega arith }

-- ---- buffers keep their lengths

pub alike_trans : {a b c : Contents} → Alike a b → Alike b c → Alike a c
alike_trans p q = record { vertices = q.vertices ∙ p.vertices; flags = q.flags ∙ p.flags; indexes = q.indexes ∙ p.indexes; origins = q.origins ∙ p.origins }

pub alike_same : {b : Contents} → Alike b b
alike_same = record { vertices = refl; flags = refl; indexes = refl; origins = refl }

length_marked : (t : Bool) (is : List ℕ) (j n : ℕ) → length (when t give set is j n else is) ≡ length is
unfolding when◌give◌else◌
length_marked true is j n = length-set is j n
length_marked false is j n = refl

pub stored_alike : (s : Stroke) (l : Laid) → Alike l.buffers (stored s l).buffers
unfolding stored
stored_alike s l = record {
  vertices = length-set _ _ _;
  flags = length-set _ _ _;
  indexes = length_marked (is_invalid s.reason) l.buffers.indexes l.places.marks s.number.0;
  origins = length-set _ _ _;
}

pub stores_alike : (ss : List Stroke) (l : Laid) → Alike l.buffers (stores ss l).buffers
unfolding stores
stores_alike [] l = alike_same
stores_alike (s ∷ ss) l = alike_trans (stored_alike s l) (stores_alike ss (stored s l))

-- ---- the strokes of kept moves, from any places on

abbrev row : ℕ → Vector2 → List Move → Laid → Laid
row n p ks l = record {
  places = record {
    strokes = l.places.strokes + length ks;
    marks = l.places.marks + length (marks n ks);
    finite = all_finite (corners p ks) and l.places.finite;
  };
  buffers = record {
    vertices = making (sets l.buffers.vertices.made l.places.strokes (corners p ks)) l.buffers.vertices;
    flags = sets l.buffers.flags l.places.strokes (flags_of ks);
    indexes = sets l.buffers.indexes l.places.marks (marks n ks);
    origins = sets l.buffers.origins l.places.strokes (origins_of ks);
    loans = l.buffers.loans;
  };
}

pub swap : (a b c : Bool) → (a and (b and c)) ≡ (b and a and c)
unfolding ◌and◌
swap true true c = refl
swap true false c = refl
swap false true c = refl
swap false false c = refl

-- the index of a move, if it is invalid, and those of the moves after it
index-more : (i : Bool) (is : List ℕ) (j k : ℕ) (ks : List ℕ) → sets (when i give set is j k else is) (j + bit i) ks ≡ sets is j (mark i k ks)
unfolding when◌give◌else◌
index-more true is j k ks = rw add-one
index-more false is j k ks = rw add-zero

index-count : (i : Bool) (j k : ℕ) (ks : List ℕ) → j + bit i + length ks ≡ j + length (mark i k ks)
index-count true j k ks = omega arith
index-count false j k ks = omega arith

stores_row : (n : ℕ) (p : Vector2) (ks : List Move) (l : Laid) → stores (strokes n p ks) l ≡ row n p ks l
unfolding stores stored strokes corners flags_of marks origins_of all_finite ◌and◌
stores_row n p [] l = simp add-zero
stores_row n p (m ∷ ks) l =
    let i = invalid_move m in
    let e : l.places.strokes + 1 + length ks ≡ l.places.strokes + suc (length ks) = omega arith in
    let f = swap (all_finite (corners m.end ks)) (finite_vertex (vertex_at p m.bulge)) l.places.finite in
    let x = index-more i l.buffers.indexes l.places.marks n (marks (suc n) ks) in
    let c = index-count i l.places.marks n (marks (suc n) ks) in
    let o = add-one l.places.strokes in
    stores_row (suc n) m.end ks _ ∙ rw (e, f, x, c, o)

-- ---- and from the first places on

-- with the places after it
abbrev pub drawn_over : Vector2 → List Move → Contents → Laid
drawn_over p ks old =
    record { places = record { strokes = length ks; marks = length (marks 0 ks); finite = all_finite (corners p ks) }; buffers = written (path p ks true) old }

over-all : {A : Type 0} (xs old : List A) → length xs ≤ length old → sets old 0 xs ≡ over xs old
over-all xs old h = sets-eq xs old 0 (rw zero-add h) ∙ rw zero-add

pub and-true : (a : Bool) → (a and true) ≡ a
unfolding ◌and◌
and-true true = refl
and-true false = refl

none-sure : sure B.zero ≡ true
unfolding is_nan of_bits
none-sure = refl

pub stores-drawn : (p : Vector2) (ks : List Move) (old : Contents) → length ks ≤ fitting old → length ks ≤ length old.flags → length ks ≤ length old.indexes
    → length ks ≤ length old.origins
    → stores (strokes 0 p ks) (laid no_places old) ≡ drawn_over p ks old
stores-drawn p ks old v f i o =
    let w = path_fits (length ks) p ks true (omega arith) in
    let a = over-all (corners p ks) old.vertices.made (omega (arith, w.vertices)) in
    let b = over-all (flags_of ks) old.flags (omega (arith, w.flags)) in
    let c = over-all (marks 0 ks) old.indexes (omega (arith, w.indexes)) in
    let d = over-all (origins_of ks) old.origins (omega (arith, w.flags, w.origins)) in
    stores_row 0 p ks (laid no_places old) ∙ simp (zero-add, none-sure, and-true, a, b, c, d)
