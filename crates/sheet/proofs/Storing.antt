-- A step's stroke stored, the room that it takes, and the strokes of a row of moves. Assumes nothing.
use mathlib.Core.Path.{◌≡◌, refl, sym, ap, subst, ◌∙◌}
use mathlib.Core.List.{List, [], ◌∷◌, ◌++◌, append-nil}
use mathlib.Core.Bool.{Bool, true, false, true≢false}
use Prim.Native.Nat.{ℕ, suc, ◌+◌, ◌≤◌, ◌<◌}
use native.Mathlib.Omega.{arith}
use borrow.Author.Tests.{eqb-true}
use lib.Dec.{eqb}
use lib.ListN.{length, set, length-set, length-append}
use lib.Ieee.{Float}
use Rattle.floats.specs.Choice.{when◌give◌else◌, ◌and◌}
use Rattle.floats.proofs.Choice.{both_pass}
use Rattle.vectors.specs.Plane.{near}
use Rattle.vectors.specs.declared.Vector2.{Vector2}
use Rattle.segments.specs.declared.RawOffsetSeg.{RawOffsetSeg}
use Rattle.joins.specs.declared.JoinBoundary.{JoinBoundary}
use Rattle.joins.specs.Corner.{is_pointed}
use Rattle.moves.specs.declared.Move.{Move}
use Rattle.moves.specs.declared.Pen.{Pen}
use Rattle.moves.specs.declared.Stroke.{Stroke}
use Rattle.moves.specs.declared.Stepped.{Stepped}
use Rattle.moves.specs.Reason.{is_invalid}
use Rattle.moves.specs.Made.{span_move, connector_move, connector_moves}
use Rattle.moves.proofs.Tips.{tip-first}
use Rattle.moves.specs.Drawing.{bit}
use Rattle.moves.specs.InnerSteps.{pen_after, step_of, tip_before, tip_first}
use Rattle.walk.specs.InnerSteps.{drawn_by, strokes_by, pen_by}
use Rattle.walk.proofs.Turning.{strokes-both, pen-both}
use Rattle.sheet.specs.InnerSteps.{Laid, stored, stores, Coded, Rooms}
use Rattle.sheet.proofs.Stored.{stores-append}

-- a step counts one number at most
pub step-number : (pen : Pen) (m : Move) (e : Float) → (step_of pen m e).pen.number.0 ≤ pen.number.0 + 1
unfolding step_of pen_after
step-number pen m e = by (near pen.last m.end e)
  where
    by : (t : Bool) → (when t give pen else pen_after pen m).number.0 ≤ pen.number.0 + 1
    by true = unfold when◌give◌else◌ in omega arith
    by false = unfold when◌give◌else◌ in omega arith

-- a stroke has its move's origin
pub step_coded : (pen : Pen) (m : Move) (e : Float) {st : Stepped} → st ≡ step_of pen m e → Coded m.origin → Coded st.stroke.origin
unfolding step_of
step_coded pen m e h k = rw h k

-- a span and a connector have their segment's
pub span_coded : (i : ℕ) (g : RawOffsetSeg) (t : Float) (p : Vector2) (t' : Float) {m : Move} → m ≡ span_move i g t p t' → i < 0x8000_0000 → Coded m.origin
unfolding span_move
span_coded i g t p t' h k = rw h k

pub connector_coded : (i : ℕ) (j : JoinBoundary) {m : Move} → m ≡ connector_move i j → i < 0x8000_0000 → Coded m.origin
unfolding connector_move
connector_coded i j h k = rw h k

-- ---- room

-- where a step is drawn, the walk is led in, and has its room
pub drawn-room : (n : ℕ) (k : Bool) {d : Bool} {r : ℕ} {l : Laid} → d ≡ (eqb n 0 and k) → (n ≡ 0 → Rooms r l) → d ≡ true → Rooms r l
drawn-room n k h room t = room (eqb-true n 0 ((both_pass (eqb n 0) k).0 (sym h ∙ t)).0)

pub room_fewer : {m n : ℕ} {l : Laid} → n ≤ m → Rooms m l → Rooms n l
room_fewer h w = record { vertices = omega (arith, w.vertices); flags = omega (arith, w.flags); indexes = omega (arith, w.indexes); origins = omega (arith, w.origins) }

marks-room : (t : Bool) (is : List ℕ) (j k n : ℕ) → j + (n + 1) ≤ length is → j + bit t + n ≤ length (when t give set is j k else is)
unfolding when◌give◌else◌
marks-room true is j k n h = simp length-set (omega arith)
marks-room false is j k n h = omega arith

-- a stroke leaves room for one fewer
pub stored-room : (n : ℕ) (s : Stroke) (l : Laid) → Rooms (n + 1) l → Rooms n (stored s l)
unfolding stored
stored-room n s l w = record {
  vertices = simp length-set (omega arith);
  flags = simp length-set (omega arith);
  indexes = marks-room (is_invalid s.reason) l.buffers.indexes l.places.marks s.number.0 n w.indexes;
  origins = simp length-set (omega arith);
}

-- a step's stroke, where it is drawn
abbrev pub drawn : Bool → Stroke → Laid → Laid
drawn t s l = when t give stored s l else l

-- ---- the strokes of a row of moves

pub stores-last : (t : Bool) (s : Stroke) (l : Laid) → stores (when t give s ∷ [] else []) l ≡ drawn t s l
unfolding stores when◌give◌else◌
stores-last true s l = refl
stores-last false s l = refl

pub stores-room : (n : ℕ) (ss : List Stroke) (l : Laid) → Rooms (length ss + n) l → Rooms n (stores ss l)
unfolding stores
stores-room n [] l w = room_fewer (omega arith) w
stores-room n (s ∷ ss) l w = stores-room n ss (stored s l) (stored-room (length ss + n) s l (room_fewer (omega arith) w))

pub drawn-few : (n : ℕ) (st : Stepped) → length (drawn_by n st) ≤ 1
unfolding drawn_by
drawn-few n st = by (eqb n 0 and st.kept)
  where
    by : (t : Bool) → length (when t give st.stroke ∷ [] else []) ≤ 1
    by true = unfold when◌give◌else◌ in omega arith
    by false = unfold when◌give◌else◌ in omega arith

-- at most one for each move
pub strokes-few : (n : ℕ) (pen : Pen) (ms : List Move) (e : Float) → length (strokes_by n pen ms e) ≤ length ms
unfolding strokes_by
strokes-few n pen [] e = omega arith
strokes-few n pen (m ∷ ms) e =
    omega (arith, drawn-few n (step_of pen m e), strokes-few n (step_of pen m e).pen ms e, length-append (drawn_by n (step_of pen m e)) (strokes_by n (step_of pen m e).pen ms e))

pub numbers-few : (pen : Pen) (ms : List Move) (e : Float) → (pen_by pen ms e).number.0 ≤ pen.number.0 + length ms
unfolding pen_by
numbers-few pen [] e = omega arith
numbers-few pen (m ∷ ms) e = omega (arith, step-number pen m e, numbers-few (step_of pen m e).pen ms e)

-- the pen after a move, and after a row of moves
pub next-number : (pen : Pen) (m : Move) (e : Float) {p : Pen} → p ≡ (step_of pen m e).pen → p.number.0 ≤ pen.number.0 + 1
next-number pen m e h = rw h (step-number pen m e)

pub row_number : (pen : Pen) (ms : List Move) (e : Float) {p : Pen} → p ≡ pen_by pen ms e → p.number.0 ≤ pen.number.0 + length ms
row_number pen ms e h = rw h (numbers-few pen ms e)

-- a move leaves room for one fewer, and a row of moves for as many fewer
pub move_leaves : (n r : ℕ) (pen : Pen) (m : Move) (e : Float) {l l' : Laid} → l' ≡ stores (drawn_by n (step_of pen m e)) l → Rooms (1 + r) l → Rooms r l'
move_leaves n r pen m e {l} h w = let f = drawn-few n (step_of pen m e) in subst (Rooms r) (sym h) (stores-room r (drawn_by n (step_of pen m e)) l (room_fewer (omega arith) w))

pub row_leaves : (n r : ℕ) (pen : Pen) (ms : List Move) (e : Float) {l l' : Laid} → l' ≡ stores (strokes_by n pen ms e) l → Rooms (length ms + r) l → Rooms r l'
row_leaves n r pen ms e {l} h w = let f = strokes-few n pen ms e in subst (Rooms r) (sym h) (stores-room r (strokes_by n pen ms e) l (room_fewer (omega arith) w))

-- one move alone
pub move_row : (n : ℕ) (pen : Pen) (m : Move) (e : Float) → strokes_by n pen (m ∷ []) e ≡ drawn_by n (step_of pen m e)
unfolding strokes_by
move_row n pen m e = append-nil (drawn_by n (step_of pen m e))

-- as the code goes: a row of moves and one after it, and a move and a row after it
module _ (pen : Pen) (ms : List Move) (m : Move) (e : Float) {p : Pen} (one : p ≡ pen_by pen ms e) where
  pub row-pen : {q : Pen} → q ≡ (step_of p m e).pen → q ≡ pen_by pen (ms ++ m ∷ []) e
  unfolding pen_by
  row-pen h = h ∙ rw one (sym (pen-both pen ms (m ∷ []) e))

module _ (n : ℕ) (pen : Pen) (ms : List Move) (m : Move) (e : Float) {p : Pen} (one : p ≡ pen_by pen ms e) (l : Laid) where
  pub row-stored : {l₁ l₂ : Laid} → l₁ ≡ stores (strokes_by n pen ms e) l → l₂ ≡ stores (drawn_by n (step_of p m e)) l₁ → l₂ ≡ stores (strokes_by n pen (ms ++ m ∷ []) e) l
  row-stored x y =
      let all =
      ap (λ (ss : List Stroke). stores ss l) (strokes-both n pen ms (m ∷ []) e) ∙ stores-append (strokes_by n pen ms e) _ l
      ∙ ap (λ (ss : List Stroke). stores ss (stores (strokes_by n pen ms e) l)) (move_row n (pen_by pen ms e) m e) in
      y ∙ rw (one, x) (sym all)

module _ (pen : Pen) (m : Move) (ms : List Move) (e : Float) {p : Pen} (one : p ≡ (step_of pen m e).pen) where
  pub span-pen : {q : Pen} → q ≡ pen_by p ms e → q ≡ pen_by pen (m ∷ ms) e
  unfolding pen_by
  span-pen h = h ∙ rw one

module _ (n : ℕ) (pen : Pen) (m : Move) (ms : List Move) (e : Float) {p : Pen} (one : p ≡ (step_of pen m e).pen) (l : Laid) where
  pub span-stored : {l₁ l₂ : Laid} → l₁ ≡ stores (drawn_by n (step_of pen m e)) l → l₂ ≡ stores (strokes_by n p ms e) l₁ → l₂ ≡ stores (strokes_by n pen (m ∷ ms) e) l
  unfolding strokes_by
  span-stored x y = y ∙ rw (one, x) (sym (stores-append (drawn_by n (step_of pen m e)) (strokes_by n (step_of pen m e).pen ms e) l))

-- ---- a tip

-- where the mode and the join do not both say so, the join does not
pub unpointed : (mode join : Bool) → (join ≡ true → mode ≡ true) → (mode and join) ≡ false → join ≡ false
unfolding ◌and◌
unpointed true join h e = e
unpointed false true h e = absurd (true≢false (sym (h refl)))
unpointed false false h e = refl

-- there is one at most
pub tip-one : (j : JoinBoundary) (m : Move) → length (tip_first j m) ≤ 1
unfolding tip_first
tip-one j m = by (is_pointed j.cause)
  where
    by : (t : Bool) → length (when t give tip_before m j.tip ∷ [] else []) ≤ 1
    by true = unfold when◌give◌else◌ in omega arith
    by false = unfold when◌give◌else◌ in omega arith

-- with the connector after it, these are all connectors of the join
pub closing-connectors : (i : ℕ) (j : JoinBoundary) {m : Move} → m ≡ connector_move i j → tip_first j m ++ m ∷ [] ≡ connector_moves i j
unfolding connector_moves
closing-connectors i j h = rw (h, tip-first i j)

-- so that with a span there are two more than those
pub closing-length : (i : ℕ) (j : JoinBoundary) {m : Move} → m ≡ connector_move i j → 1 + length (connector_moves i j) ≡ 2 + length (tip_first j m)
closing-length i j {m} h = let e = ap (λ (ms : List Move). length ms) (closing-connectors i j h) in omega (arith, e, length-append (tip_first j m) (m ∷ []))

pub closing-room : (i : ℕ) (j : JoinBoundary) {m : Move} {l : Laid} → m ≡ connector_move i j → Rooms (suc (length (connector_moves i j))) l → Rooms (1 + (1 + length (tip_first j m))) l
closing-room i j h w = let e = closing-length i j h in room_fewer (omega (arith, e)) w
