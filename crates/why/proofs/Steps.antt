-- A step of the code and a turn of it, by what its calls answer: a move that is not drawn (`step-none`), one that is (`step-drawn`), and the moves of a turn (`turn-asked`).
-- Assumes nothing.
use mathlib.Core.Path.{◌≡◌, refl, sym, ap, ◌∙◌}
use mathlib.Core.List.{List, [], ◌∷◌, ◌++◌}
use mathlib.Core.Bool.{Bool, true, false}
use Prim.Native.Nat.{ℕ, ◌+◌, ◌≤◌}
use native.Mathlib.Omega.{arith}
use lib.Dec.{eqb}
use lib.ListN.{length}
use lib.Ieee.{Float, of_bits, is_nan}
use Rattle.std.specs.Prelude.{Result, Err}
use Rattle.floats.specs.Binary64.{zero}
use Rattle.floats.specs.Choice.{when◌give◌else◌, ◌and◌}
use Rattle.segments.specs.declared.PlineVertex.{PlineVertex}
use Rattle.segments.specs.declared.Settings.{Settings}
use Rattle.segments.specs.InnerSteps.{bulge_by}
use Rattle.joins.specs.declared.JoinBoundary.{JoinBoundary}
use Rattle.moves.specs.declared.Move.{Move}
use Rattle.moves.specs.declared.Pen.{Pen}
use Rattle.moves.specs.declared.Stroke.{Stroke}
use Rattle.moves.specs.declared.Stepped.{Stepped}
use Rattle.moves.specs.Made.{connector_move, connector_moves}
use Rattle.moves.specs.Drawing.{finite_vertex}
use Rattle.moves.specs.InnerSteps.{step_of, with_bulge, tip_first, sure}
use Rattle.walk.specs.declared.Walk.{Walk}
use Rattle.walk.specs.declared.Turned.{Turned}
use Rattle.refusals.specs.declared.Refusal.TheVariants.{NoSuchSegment}
use Rattle.walk.specs.InnerSteps.{stands, Stood, stood, standing_at, after_turn, Turn, turn_to, turn_shown, after_span, span_to, drawn_by, pen_by, advance}
use Rattle.sheet.proofs.Storing.{step-number, numbers-few, closing-connectors}
use Rattle.why.specs.declared.Telling.{Telling}
use Rattle.why.specs.declared.Note.{Note}
use Rattle.why.specs.declared.Asking.{Asking}
use Rattle.why.specs.InnerSteps.{telling_in, told_if, answers_by, finitely, Noted, noted, note_of, notes_of, Asked, asked, noted_of, standing_asked, entry_after, asked_turn, finish_of, closing_answer}
use Rattle.refusals.specs.declared.Refusal.{Refusal}

-- ---- one move
module _ (f : Stroke → Telling) (k n : ℕ) (m : Move) (ε : Float) (before : Noted) where
  abbrev drawn : Bool → Stepped → List Stroke
  drawn t st = when t give st.stroke ∷ [] else []

  after : (ss : List Stroke) (st : Stepped) → Noted
  after ss st = record { pen = st.pen; answer = answers_by f k ss before.answer; finite = finitely ss before.finite }

  note-is : (st : Stepped) (t : Bool) → st ≡ step_of before.pen m ε → t ≡ (eqb n 0 and st.kept) → after (drawn t st) st ≡ note_of f k n m ε before
  unfolding after note_of drawn_by
  note-is st t e h = rw (h, e)

  pub step-none : (st : Stepped) {t : Bool} → st ≡ step_of before.pen m ε → t ≡ (eqb n 0 and st.kept) → t ≡ false
      → ◌≡◌ {A = Noted} (record { pen = st.pen; answer = before.answer; finite = before.finite }) (note_of f k n m ε before)
  unfolding after answers_by finitely when◌give◌else◌
  step-none st e h z = rw z at (note-is st _ e h)

  pub step-drawn : (st : Stepped) {t : Bool} → st ≡ step_of before.pen m ε → t ≡ (eqb n 0 and st.kept) → t ≡ true
      → ◌≡◌ {A = Noted} (record { pen = st.pen; answer = told_if f k st.stroke before.answer; finite = finite_vertex st.stroke.vertex and before.finite }) (note_of f k n m ε before)
  unfolding after answers_by finitely when◌give◌else◌
  step-drawn st e h z = rw z at (note-is st _ e h)

  -- the pen's number rises by one at most
  pub note-number : (after : Note) → noted after ≡ note_of f k n m ε before → after.pen.number.0 ≤ before.pen.number.0 + 1
  unfolding note_of
  note-number after e = let x = ap (λ (a : Noted). a.pen.number.0) e in omega (arith, step-number before.pen m ε)

-- ---- moves one after the other
module _ (f : Stroke → Telling) (k n : ℕ) (ε : Float) where
  pub notes_both : (ms ns : List Move) (before : Noted) → notes_of f k n (ms ++ ns) ε before ≡ notes_of f k n ns ε (notes_of f k n ms ε before)
  unfolding notes_of
  notes_both [] ns before = refl
  notes_both (m ∷ ms) ns before = notes_both ms ns (note_of f k n m ε before)

  notes_pen : (ms : List Move) (before : Noted) → (notes_of f k n ms ε before).pen ≡ pen_by before.pen ms ε
  unfolding notes_of pen_by
  notes_pen [] before = refl
  notes_pen (m ∷ ms) before = notes_pen ms (note_of f k n m ε before) ∙ (unfold note_of in refl)

  -- the pen's number rises by one at most for each
  pub notes_number : (ms : List Move) (before : Noted) (after : Note) → noted after ≡ notes_of f k n ms ε before → after.pen.number.0 ≤ before.pen.number.0 + length ms
  notes_number ms before after e =
      let x = ap (λ (a : Noted). a.pen.number.0) e in
      let y = ap (λ (p : Pen). p.number.0) (notes_pen ms before) in
      omega (arith, x, y, numbers-few before.pen ms ε)

  -- as the code goes: a span, the move to a tip, if there is one, and a connector
  moves-noted : (span connector : Move) (tips : List Move) (before : Noted) {n₁ n₂ n₃ : Noted} → n₁ ≡ note_of f k n span ε before → n₂ ≡ notes_of f k n tips ε n₁
      → n₃ ≡ note_of f k n connector ε n₂ → n₃ ≡ notes_of f k n (span ∷ tips ++ connector ∷ []) ε before
  unfolding notes_of
  moves-noted span connector tips before one two three = three ∙ rw (two, one) (sym (notes_both tips (connector ∷ []) (note_of f k n span ε before)))

-- ---- a walk

pub standing-asked : (w : Walk) (a : PlineVertex) (n : ℕ) → stood w ≡ standing_at a n
    → asked (record { walk = w; entry = w.entry; answer = Err NoSuchSegment; doubt = zero }) ≡ standing_asked a n
unfolding standing_asked is_nan of_bits
standing-asked w a n e = ap (λ (x : Stood). record { stood = x; entry = x.walker.entry; answer = Err NoSuchSegment; finite = true }) e

-- what the moves of a turn leave
turned_to : Bool → ℕ → Float → JoinBoundary → Turn → ℕ → Noted → Asked
turned_to closed k ε entry u n before =
    let f = telling_in entry u.join in
    let all = notes_of f k n (u.span ∷ u.connectors) ε before in
    let w = after_turn closed all.pen n u.walker in
    record { stood = w; entry = entry_after n closed u.join w.walker.entry; answer = all.answer; finite = all.finite }

turned-asked : (closed : Bool) (σ : Settings) (k : ℕ) (c : PlineVertex) (q : Asked)
    → turned_to closed k σ.eps q.entry (turn_to q.stood.walker c σ) q.stood.leading (noted_of q) ≡ asked_turn closed σ k c q
unfolding turned_to asked_turn advance
turned-asked closed σ k c q =
    let t = turn_to q.stood.walker c σ in
    let n = q.stood.leading in
    let f = telling_in q.entry t.join in
    let all = notes_of f k n (t.span ∷ t.connectors) σ.eps (noted_of q) in
    ap (λ (p : Pen). let w = after_turn closed p n t.walker in record { stood = w; entry = entry_after n closed t.join w.walker.entry; answer = all.answer; finite = all.finite })
    (notes_pen f k n σ.eps (t.span ∷ t.connectors) (noted_of q))

module _ (closed : Bool) (σ : Settings) (k : ℕ) (c : PlineVertex) (q : Asking) (t : Turned) (w : Walk) (n₀ n₁ nₜ n₂ : Note) {bulge : Float} {span : Move} {entry : JoinBoundary}
    (to : turn_shown t ≡ turn_to (stands q.walk) c σ) (leading : t.walk.leading ≡ q.walk.leading)
    (b : bulge ≡ bulge_by t.curved t.sweep) (s : span ≡ with_bulge bulge t.span) (first : noted n₀ ≡ noted_of (asked q))
    (one : noted n₁ ≡ note_of (telling_in q.entry t.join) k q.walk.leading span σ.eps (noted n₀))
    (tip : noted nₜ ≡ notes_of (telling_in q.entry t.join) k q.walk.leading (tip_first t.join t.connector) σ.eps (noted n₁))
    (two : noted n₂ ≡ note_of (telling_in q.entry t.join) k q.walk.leading t.connector σ.eps (noted nₜ))
    (after : stood w ≡ after_turn closed n₂.pen t.walk.leading (stands t.walk)) (e : entry ≡ entry_after q.walk.leading closed t.join w.entry) where
  abbrev left : Result Telling Refusal → Bool → Stood → Asked
  left answer finite x = record { stood = x; entry = entry_after q.walk.leading closed t.join x.walker.entry; answer = answer; finite = finite }

  all : noted n₂ ≡ notes_of (telling_in q.entry t.join) k q.walk.leading (with_bulge (bulge_by t.curved t.sweep) t.span ∷ after_span t) σ.eps (noted_of (asked q))
  all = moves-noted _ k _ σ.eps _ t.connector (tip_first t.join t.connector) (noted_of (asked q)) (one ∙ rw (first, s, b)) tip two

  by_code : asked (record { walk = w; entry = entry; answer = n₂.answer; doubt = n₂.doubt }) ≡ turned_to closed k σ.eps q.entry (turn_shown t) q.walk.leading (noted_of (asked q))
  unfolding turned_to
  by_code =
      ap (λ (j : JoinBoundary). record { stood = stood w; entry = j; answer = n₂.answer; finite = sure n₂.doubt }) e
      ∙ ap (left n₂.answer (sure n₂.doubt)) (after ∙ rw leading)
      ∙ ap (λ (n : Noted). left n.answer n.finite (after_turn closed n.pen q.walk.leading (stands t.walk))) all

  pub turn-asked : asked (record { walk = w; entry = entry; answer = n₂.answer; doubt = n₂.doubt }) ≡ asked_turn closed σ k c (asked q)
  turn-asked = by_code ∙ ap (λ (u : Turn). turned_to closed k σ.eps q.entry u q.walk.leading (noted_of (asked q))) to ∙ turned-asked closed σ k c (asked q)

-- ---- the closing moves
pub closing-asked : (j : JoinBoundary) (ε : Float) (k : ℕ) (q : Asking) (n₀ n₁ nₜ n₂ : Note) {span connector : Move} → noted n₀ ≡ noted_of (asked q)
    → span ≡ span_to (stands q.walk) j.current_end j.current_param → connector ≡ connector_move q.walk.source.0 j
    → noted n₁ ≡ note_of (telling_in q.entry j) k 0 span ε (noted n₀) → noted nₜ ≡ notes_of (telling_in q.entry j) k 0 (tip_first j connector) ε (noted n₁)
    → noted n₂ ≡ note_of (telling_in q.entry j) k 0 connector ε (noted nₜ) → finish_of n₂.answer (sure n₂.doubt) ≡ closing_answer j ε k (asked q)
unfolding closing_answer
closing-asked j ε k q n₀ n₁ nₜ n₂ {span} {connector} first s c one tip two =
    let f = telling_in q.entry j in
    let made = moves-noted f k 0 ε span connector (tip_first j connector) (noted_of (asked q)) (one ∙ rw first) tip two in
    let w = stands q.walk in
    let all : noted n₂ ≡ notes_of f k 0 (span_to w j.current_end j.current_param ∷ connector_moves w.source.0 j) ε (noted_of (asked q)) =
    made ∙ rw (s, closing-connectors q.walk.source.0 j c) in
    ap (λ (n : Noted). finish_of n.answer n.finite) all
