-- Demand 3 of what is drawn: open (`open_sound`), closed (`closed-sound`), and the closing pair where the closing move was kept (`closing-apart`). Assumes nothing.
use mathlib.Core.Path.{◌≡◌, refl, sym, ap, ◌∙◌, subst}
use mathlib.Core.Logic.{◌↔◌, ⊎_elim}
use mathlib.Core.List.Memᴰ
use mathlib.Core.List.{List, [], ◌∷◌, ◌++◌, map, map-append, Memᴰ}
use mathlib.Core.Bool.{Bool, true, false, false≢true}
use Prim.Native.Nat.{ℕ, zero, suc, ◌+◌, ◌≤◌, ◌<◌}
use native.Mathlib.Nat.{zero-add, add-zero, add-suc, suc-add, le_refl, le_of_lt}
use native.Mathlib.Omega.{arith}
use lib.ListN.{length, get_or, length-append}
use lib.Ieee.{Float, lt}
use Rattle.floats.specs.Binary64.{zero as plus-zero}
use Rattle.floats.specs.Choice.{when◌give◌else◌}
use Rattle.floats.specs.Size.{finite}
use Rattle.vectors.specs.Plane.{near}
use Rattle.vectors.specs.declared.Vector2.{Vector2}
use Rattle.segments.specs.Vertex.{pos_of, vertex_at}
use Rattle.moves.specs.declared.Move.{Move}
use Rattle.moves.specs.Reason.{invalid_move}
use Rattle.moves.specs.Moves as M
use Rattle.moves.specs.Drawing.{Drawing, nothing, move_end, kept, last_point, corners, flags_of, marks, mark, bit, origins_of, drawn_open, drawn_closed}
use Rattle.moves.specs.Choice.{Apart, Rising}
use Rattle.moves.specs.Choice.Apart.{none, one, more}
use Rattle.moves.specs.Choice.Rising.{none as rnone, next}
use Rattle.moves.specs.Sound.{invalid_at, invalids, segment_count, Sound}
use Rattle.moves.proofs.Laws.{bit-small}
use Rattle.moves.proofs.Kept.{last_point-snoc}
use Rattle.moves.proofs.Lists.{length-corners, length-flags_of}
use Rattle.moves.proofs.Near.{near_symmetric, near_self, near-finite}
use Rattle.moves.proofs.Choices as C
use Rattle.moves.proofs.Closing.{closing}
use Rattle.moves.proofs.Shapes.{closed_some}

-- ---- the points of the vertices

corners_points : (p : Vector2) (ks : List Move) → map pos_of (corners p ks) ++ last_point p ks ∷ [] ≡ p ∷ map move_end ks
unfolding corners M.last_point
corners_points p [] = refl
corners_points p (k ∷ ks) = ap (λ (t : List Vector2). p ∷ t) (corners_points k.end ks)

open_points : (p : Vector2) (ks : List Move) (b : Float) → map pos_of (corners p ks ++ vertex_at (last_point p ks) b ∷ []) ≡ p ∷ map move_end ks
open_points p ks b = map-append pos_of (corners p ks) (vertex_at (last_point p ks) b ∷ []) ∙ corners_points p ks

-- all but the last of a row
apart-front : {close : Vector2 → Vector2 → Bool} (ps : List Vector2) (q : Vector2) → Apart close (ps ++ q ∷ []) → Apart close ps
apart-front [] q a = none
apart-front (p ∷ []) q a = one
apart-front (p ∷ r ∷ ps) q (more h a) = more h (apart-front (r ∷ ps) q a)

-- ---- indexes

rising-more : (n : ℕ) (is : List ℕ) → Rising (suc n) is → Rising n is
rising-more n is rnone = rnone
rising-more n is (next h r) = next (le_of_lt h) r

marks-rising : (n : ℕ) (ks : List Move) → Rising n (marks n ks)
unfolding marks
marks-rising n [] = rnone
marks-rising n (k ∷ ks) = by (invalid_move k) (marks-rising (suc n) ks)
  where
    by : (b : Bool) → Rising (suc n) (marks (suc n) ks) → Rising n (mark b n (marks (suc n) ks))
    by true r = next (le_refl n) r
    by false r = rising-more n (marks (suc n) ks) r

count-marks : (n : ℕ) (ks : List Move) → length (marks n ks) ≡ invalids ks
unfolding marks invalids
count-marks n [] = refl
count-marks n (k ∷ ks) = by (invalid_move k) (count-marks (suc n) ks)
  where
    by : (b : Bool) → length (marks (suc n) ks) ≡ invalids ks → length (mark b n (marks (suc n) ks)) ≡ bit b + invalids ks
    by true h = omega arith
    by false h = omega arith

-- an index is a move that is invalid, and each such move is an index
marks_mem : (i n : ℕ) (ks : List Move) → Memᴰ i (marks n ks) → (j : ℕ) × (i ≡ n + j) × (invalid_at ks j ≡ true)
unfolding marks invalid_at
marks_mem i n [] h = absurd (Memᴰ.not-nil h)
marks_mem i n (k ∷ ks) h = by (invalid_move k) refl h (λ m. later (marks_mem i (suc n) ks m))
  where
    later : (j : ℕ) × (i ≡ suc n + j) × (invalid_at ks j ≡ true) → (j : ℕ) × (i ≡ n + j) × (invalid_at (k ∷ ks) j ≡ true)
    later w = (suc w.0, (let q = w.1 in omega arith), w.2)

    here : i ≡ n → invalid_move k ≡ true → (j : ℕ) × (i ≡ n + j) × (invalid_at (k ∷ ks) j ≡ true)
    here q w = (zero, omega arith, w)

    by : (b : Bool) → invalid_move k ≡ b → Memᴰ i (mark b n (marks (suc n) ks))
        → (Memᴰ i (marks (suc n) ks) → (j : ℕ) × (i ≡ n + j) × (invalid_at (k ∷ ks) j ≡ true)) → (j : ℕ) × (i ≡ n + j) × (invalid_at (k ∷ ks) j ≡ true)
    by true w m on = ⊎_elim (λ q. here q w) on (Memᴰ.cases_cons m)
    by false w m on = on m

mem_marks : (n : ℕ) (ks : List Move) (j : ℕ) → invalid_at ks j ≡ true → Memᴰ (n + j) (marks n ks)
unfolding marks invalid_at
mem_marks n [] j h = absurd (false≢true h)
mem_marks n (k ∷ ks) zero h = rw h (Memᴰ.head (add-zero n))
mem_marks n (k ∷ ks) (suc j) h = by (invalid_move k) (Memᴰ.cast (add-suc n j ∙ sym (suc-add n j)) (mem_marks (suc n) ks j h))
  where
    by : (b : Bool) → Memᴰ (n + suc j) (marks (suc n) ks) → Memᴰ (n + suc j) (mark b n (marks (suc n) ks))
    by true m = Memᴰ.tail m
    by false m = m

marks_exact : (ks : List Move) (i : ℕ) → Memᴰ i (marks 0 ks) ↔ (invalid_at ks i ≡ true)
marks_exact ks i = (there, back)
  where
    there : Memᴰ i (marks 0 ks) → invalid_at ks i ≡ true
    there m = let w = marks_mem i 0 ks m in ap (invalid_at ks) (w.1 ∙ zero-add w.0) ∙ w.2

    back : invalid_at ks i ≡ true → Memᴰ i (marks 0 ks)
    back h = Memᴰ.cast (sym (zero-add i)) (mem_marks 0 ks i h)

invalid-below : (ks : List Move) (i : ℕ) → invalid_at ks i ≡ true → i < length ks
unfolding invalid_at
invalid-below [] i h = absurd (false≢true h)
invalid-below (k ∷ ks) zero h = omega arith
invalid-below (k ∷ ks) (suc i) h = omega (arith, invalid-below ks i h)

-- ---- flags

flags-at : (ks : List Move) (i : ℕ) → (invalid_at ks i ≡ true) ↔ (get_or (flags_of ks) i 0 ≡ 1)
unfolding invalid_at flags_of
flags-at [] i = ((λ h. absurd (false≢true h)), (λ h. absurd (omega arith)))
flags-at (k ∷ ks) zero = (there, back (invalid_move k))
  where
    there : invalid_move k ≡ true → bit (invalid_move k) ≡ 1
    there h = rw h

    back : (b : Bool) → bit b ≡ 1 → b ≡ true
    back true h = refl
    back false h = absurd (omega arith)
flags-at (k ∷ ks) (suc i) = flags-at ks i

flag-bits : (ks : List Move) (i : ℕ) → get_or (flags_of ks) i 0 ≤ 1
unfolding flags_of
flag-bits [] i = omega arith
flag-bits (k ∷ ks) zero = bit-small (invalid_move k)
flag-bits (k ∷ ks) (suc i) = flag-bits ks i

-- ---- the drawings

-- what is left to show of a drawing that has the flags, indexes and origins of ks: its vertices and its number of segments
marked-sound : (e : Float) (ks : List Move) (d : Drawing) → d.flags ≡ flags_of ks → d.indexes ≡ marks 0 ks → d.origins ≡ origins_of ks → segment_count d ≡ length ks
    → (length d.vertices ≡ 1 → ⊥) → Apart (λ a b. near a b e) (map pos_of d.vertices) → Sound e ks d
marked-sound e ks d f x z n o a = record {
  never_one = o;
  apart = a;
  segments = n;
  flags = ap length f ∙ length-flags_of ks ∙ sym n;
  bits = λ i. rw f (flag-bits ks i);
  indexes = ap length x ∙ count-marks 0 ks;
  rising = rw x (marks-rising 0 ks);
  flagged = λ i. rw (x, f) ((λ m. (flags-at ks i).0 ((marks_exact ks i).0 m)), (λ h. (marks_exact ks i).1 ((flags-at ks i).1 h)));
  invalid = λ i. rw x (marks_exact ks i);
  below = λ i m. rw n (invalid-below ks i ((marks_exact ks i).0 (rw x at m)));
  origins = z;
}

nothing-sound : (e : Float) → Sound e [] nothing
unfolding segment_count when◌give◌else◌ flags_of marks origins_of
nothing-sound e = marked-sound e [] nothing refl refl refl refl (λ h. omega arith) none

open_sound' : (e : Float) (p : Vector2) (ks : List Move) → Apart (λ a b. near a b e) (p ∷ map move_end ks) → Sound e ks (drawn_open p ks)
unfolding drawn_open segment_count when◌give◌else◌
open_sound' e p [] a = nothing-sound e
open_sound' e p (k ∷ ks) a =
    let l = length-corners p (k ∷ ks) in
    let q = length-append (corners p (k ∷ ks)) (vertex_at (last_point p (k ∷ ks)) plus-zero ∷ []) in
    marked-sound e (k ∷ ks) (drawn_open p (k ∷ ks)) refl refl refl (omega arith) (λ h. omega arith) (rw (open_points p (k ∷ ks) plus-zero) a)

pub open_sound : (e : Float) (p : Vector2) (ms : List Move) → Sound e (kept e p ms) (drawn_open p (kept e p ms))
open_sound e p ms = open_sound' e p (kept e p ms) (C.kept-apart move_end (λ a b. near a b e) p ms)

closed_sound' : (e : Float) (p : Vector2) (ks : List Move) → (length ks ≡ 1 → ⊥) → Apart (λ a b. near a b e) (p ∷ map move_end ks) → Sound e ks (drawn_closed p ks)
unfolding drawn_closed segment_count when◌give◌else◌
closed_sound' e p [] o a = nothing-sound e
closed_sound' e p (k ∷ []) o a = absurd (o refl)
closed_sound' e p (k ∷ j ∷ ks) o a =
    let l = length-corners p (k ∷ j ∷ ks) in
    marked-sound e (k ∷ j ∷ ks) (drawn_closed p (k ∷ j ∷ ks)) refl refl refl (omega arith) (λ h. omega arith)
    (apart-front (map pos_of (corners p (k ∷ j ∷ ks))) (last_point p (k ∷ j ∷ ks)) (rw (corners_points p (k ∷ j ∷ ks)) a))

-- A closed walk of two moves or more, whose closing move c ends at the first vertex, never keeps exactly one move.
module _ (e : Float) (p : Vector2) (ms : List Move) (c : Move) (ends : c.end ≡ p) (some : 0 < length ms) where
  pub closed_never_one : length (kept e p (ms ++ c ∷ [])) ≡ 1 → ⊥
  closed_never_one = C.never_one move_end (λ a b. near a b e) (λ a b. near_symmetric a b e) (λ a b. near_self a b e) p c ends ms some

  pub closed-sound : Sound e (kept e p (ms ++ c ∷ [])) (drawn_closed p (kept e p (ms ++ c ∷ [])))
  closed-sound = closed_sound' e p (kept e p (ms ++ c ∷ [])) closed_never_one (C.kept-apart move_end (λ a b. near a b e) p (ms ++ c ∷ []))

  -- where the closing move was kept, the vertices are apart all the way round
  pub closing-apart : near (last_point p (kept e p ms)) p e ≡ false → Apart (λ a b. near a b e) (map pos_of (drawn_closed p (kept e p (ms ++ c ∷ []))).vertices ++ p ∷ [])
  unfolding when◌give◌else◌
  closing-apart h = rw (closed_some p ks many) (subst (λ (t : List Vector2). Apart (λ a b. near a b e) t) round (C.kept-apart move_end (λ a b. near a b e) p (ms ++ c ∷ [])))
    where
      ks : List Move
      ks = kept e p (ms ++ c ∷ [])

      with-closing : ks ≡ kept e p ms ++ c ∷ []
      with-closing = closing e p ms c ends ∙ rw h

      many : 2 ≤ length ks
      many =
          let l = ap length with-closing ∙ length-append (kept e p ms) (c ∷ []) in
          let o = closed_never_one in
          omega arith

      round : p ∷ map move_end ks ≡ map pos_of (corners p ks) ++ p ∷ []
      round =
          let l : last_point p ks ≡ p = ap (last_point p) with-closing ∙ last_point-snoc move_end p (kept e p ms) c ∙ ends in
          sym (corners_points p ks) ∙ ap (λ (q : Vector2). map pos_of (corners p ks) ++ q ∷ []) l

-- ---- how many vertices

pub open_vertices : (p : Vector2) (ks : List Move) → 0 < length ks → length (drawn_open p ks).vertices ≡ length ks + 1
unfolding drawn_open
open_vertices p [] l = absurd (omega arith)
open_vertices p (k ∷ ks) l = length-append (corners p (k ∷ ks)) (vertex_at (last_point p (k ∷ ks)) plus-zero ∷ []) ∙ ap (λ n. n + 1) (length-corners p (k ∷ ks))

pub closed-vertices : (p : Vector2) (ks : List Move) → 2 ≤ length ks → length (drawn_closed p ks).vertices ≡ length ks
closed-vertices p ks l = rw (closed_some p ks l) (length-corners p ks)

-- ---- 000's assertions on nearness

-- after a move with a finite end, at an e above zero, the last kept point is near that end
pub emitted_end : (e : Float) (p : Vector2) (ms : List Move) (m : Move) → finite m.end.x ≡ true → finite m.end.y ≡ true → lt plus-zero e ≡ true
    → near (last_point p (kept e p (ms ++ m ∷ []))) m.end e ≡ true
emitted_end e p ms m h k l = C.last-near move_end (λ a b. near a b e) p ms m (near-finite m.end e h k l)
