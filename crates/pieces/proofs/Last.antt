-- The end as the code stores it (`unended`, `with-last`), and its refusal by the test of the code (`end-endless`, `end-finite`). Assumes nothing.
use mathlib.Core.Path.{◌≡◌, refl, sym, ap, ◌∙◌}
use mathlib.Core.List.{List, [], ◌∷◌, ◌++◌, append-nil}
use mathlib.Core.Bool.{Bool, true, false, not, true≢false, false≢true}
use Prim.Native.Nat.{ℕ, ◌+◌, ◌≤◌, ◌<◌}
use native.Mathlib.Omega.{arith}
use lib.ListN.{length, length-append, length-map}
use lib.Ieee.{Float, eq}
use Rattle.std.specs.Prelude.{Some, None, is_some}
use Rattle.floats.specs.Binary64 as B
use Rattle.floats.specs.Choice.{when◌give◌else◌}
use Rattle.segments.specs.declared.Settings.{Settings}
use Rattle.segments.specs.declared.PlineVertex.{PlineVertex}
use Rattle.source.specs.Source.{rows}
use Rattle.moves.specs.declared.Stroke.{Stroke}
use Rattle.moves.specs.Reason.{is_invalid}
use Rattle.moves.specs.Drawing.{Drawing, bit, all_finite}
use Rattle.moves.specs.Origins.{origins_in}
use Rattle.moves.proofs.Laws.{bit-small}
use Rattle.walk.specs.InnerSteps.{drawn_by}
use Rattle.sheet.specs.Buffers.{buffers}
use Rattle.sheet.specs.declared.Places.{Places}
use Rattle.sheet.specs.InnerSteps.{Loaned, SameLoans, lent, held, Held, held_by, Contents, contents, fitting, making, no_places, Laid, laid, put_at, stores, Rooms, over, over_at, written}
use Rattle.sheet.proofs.Storing.{drawn-few, room_fewer}
use Rattle.sheet.specs.declared.lent.Marks.{Marks}
use Rattle.sheet.proofs.Loop.{laid_alike}
use Rattle.sheet.proofs.Over.{over-set}
use Rattle.course.specs.declared.Course.{Course}
use Rattle.course.specs.declared.Ending.{Ending}
use Rattle.course.specs.Course.{end_piece, end_refusal}
use Rattle.course.specs.InnerSteps.{numbers_by, vertices_by, piece_by, ending_piece}
use Rattle.pieces.specs.declared.OpenJob.{OpenJob}
use Rattle.pieces.specs.declared.DrawAnswer.{DrawAnswer}
use Rattle.pieces.specs.Calls.{settings_of, answering, called, handed_out, staged, ended}
use Rattle.pieces.specs.InnerSteps.{end_counts}
use Rattle.pieces.proofs.Stored.{stores-rows, numbers-few, stores-written, written_out, written_same}

no_last : (e : Ending) → e.last ≡ None → (ending_piece e).vertices ≡ vertices_by (drawn_by 0 e.span)
unfolding ending_piece
no_last e h = rw h (append-nil (vertices_by (drawn_by 0 e.span)))

one_last : (e : Ending) (v : PlineVertex) → e.last ≡ Some v → (ending_piece e).vertices ≡ vertices_by (drawn_by 0 e.span) ++ v ∷ []
unfolding ending_piece
one_last e v h = rw h

-- the other lists are those of the span
as_span : (e : Ending) (h : Held) (old : Contents) → h ≡ over_at (ending_piece e).vertices old.vertices
    → contents h (over (piece_by (drawn_by 0 e.span)).flags old.flags) (over (piece_by (drawn_by 0 e.span)).indexes old.indexes) (over (piece_by (drawn_by 0 e.span)).origins old.origins) old.loans
    ≡ written (ending_piece e) old
unfolding ending_piece
as_span e h old q = rw q

module _ (e : Ending) (p r : Places) (l l' : Loaned) (m m' : Marks) (z : p ≡ no_places) (w : Rooms 2 (laid p (held l m)))
    (s : laid r (held l' m') ≡ stores (drawn_by 0 e.span) (laid p (held l m))) where
  abbrev ss : List Stroke
  ss = drawn_by 0 e.span

  abbrev old : Contents
  old = held l m

  one-room : Rooms (length ss) (laid p old)
  one-room = let n = drawn-few 0 e.span in room_fewer (omega arith) w

  span-written : held l' m' ≡ written (piece_by ss) old
  span-written = ap (λ (l : Laid). l.buffers) s ∙ stores-written ss p old z one-room

  place : r.strokes ≡ length ss
  place =
      let a = ap (λ (l : Laid). l.places.strokes) s in
      let b = ap (λ (q : Places). q.strokes) z in
      omega (arith, a, b, (stores-rows ss (laid p old)).strokes)

  mark-place : r.marks ≡ length (numbers_by ss)
  mark-place =
      let a = ap (λ (l : Laid). l.places.marks) s in
      let b = ap (λ (q : Places). q.marks) z in
      omega (arith, a, b, (stores-rows ss (laid p old)).marks)

  pub few-places : (r.strokes ≤ 1) × (r.marks ≤ 1)
  few-places = let n = drawn-few 0 e.span in (omega (arith, place), omega (arith, mark-place, numbers-few ss))

  pub last-place : r.strokes < length (held_by l').made
  last-place =
      let c = ap (λ (q : Places). q.strokes) z in
      let n = drawn-few 0 e.span in
      let k = laid_alike p r ss s in
      omega (arith, few-places.0, w.vertices, k.vertices, c)

  counts : (n : ℕ) → n ≡ r.strokes + bit (is_some e.last) → length (ending_piece e).vertices ≡ n → end_counts r e ≡ answering 0 0 (ending_piece e)
  unfolding ending_piece
  counts n a b =
      let ln = length-map ss (λ (t : Stroke). bit (is_invalid t.reason)) in
      λ x. record { number = 0; place = 0; vertices = (sym a ∙ sym b) x; indexes = mark-place x; segments = (place ∙ sym ln) x }

  pub unended : e.last ≡ None → (held l' m' ≡ written (ending_piece e) old) × (end_counts r e ≡ answering 0 0 (ending_piece e))
  unended h =
      let all = no_last e h in
      let ln = length-map ss (λ (t : Stroke). t.vertex) in
      (span-written ∙ as_span e _ old (ap (λ (vs : List PlineVertex). over_at vs old.vertices) (sym all)), counts (length ss) (rw h (omega (arith, place))) (ap (λ (vs : List PlineVertex). length vs) all ∙ ln))

  pub with-last : (l'' : Loaned) (v : PlineVertex) → e.last ≡ Some v → held_by l'' ≡ put_at (held_by l') r.strokes v
      → (held l'' m' ≡ written (ending_piece e) old) × (end_counts r e ≡ answering 0 0 (ending_piece e))
  with-last l'' v h q =
      let all = one_last e v h in
      let ln = length-map ss (λ (t : Stroke). t.vertex) in
      let n = drawn-few 0 e.span in
      let mm = length-append (vertices_by ss) (v ∷ []) in
      let here : held_by l' ≡ over_at (vertices_by ss) old.vertices = ap (λ (b : Contents). b.vertices) span-written in
      let at : r.strokes ≡ length (vertices_by ss) = place ∙ sym ln in
      let put : held_by l'' ≡ over_at (ending_piece e).vertices old.vertices =
      q ∙ (λ x. put_at (here x) (at x) v) ∙ ap (λ (vs : List PlineVertex). making vs old.vertices) (over-set (vertices_by ss) old.vertices.made v (omega (arith, w.vertices)) ∙ rw all) in (
        (λ x. contents (held_by l'') (span-written x).flags (span-written x).indexes (span-written x).origins (span-written x).loans) ∙ as_span e _ old put,
        counts (length ss + 1) (rw h (omega (arith, place))) (ap (λ (vs : List PlineVertex). length vs) all ∙ omega (arith, mm, ln)),
      )

-- ---- the call

module _ (j : OpenJob) (e : Ending) (p : Places) {σ : Settings} (l l' : Loaned) (m m' : Marks) (asked : σ ≡ settings_of j) (is : ending_piece e ≡ end_piece σ j.course)
    (wrote : held l' m' ≡ written (ending_piece e) (held l m)) (counted : end_counts p e ≡ answering 0 0 (ending_piece e)) (few : p.strokes ≤ 1)
    (room : Rooms 2 (laid no_places (held l m))) where
  abbrev rest : Drawing
  rest = end_piece (settings_of j) j.course

  piece : ending_piece e ≡ rest
  piece = is ∙ ap (λ (τ : Settings). end_piece τ j.course) asked

  fits : length (ending_piece e).vertices ≤ fitting (held l m)
  fits = let n = ap (λ (a : DrawAnswer). a.vertices) counted in omega (arith, bit-small (is_some e.last), room.vertices)

  pub ended_same : SameLoans l m l' m'
  ended_same = written_same l l' m m' (ending_piece e) wrote

  pub ended-called : {a : DrawAnswer} {j' : OpenJob} → a ≡ end_counts p e → j' ≡ staged ended 0 0 j.course j
      → called a j' (lent l' m') ≡ called (answering 0 0 rest) (staged ended 0 0 j.course j) (handed_out rest (lent l m))
  ended-called q k =
      (λ x. called ((q ∙ counted) x) (k x) (written_out l l' m m' (ending_piece e) fits wrote x))
      ∙ (λ x. called (answering 0 0 (piece x)) (staged ended 0 0 j.course j) (handed_out (piece x) (lent l m)))

-- ---- its refusal

module _ (σ : Settings) (w : Course) {d : Drawing} {t : Bool} (is : d ≡ end_piece σ w) (told : t ≡ when eq σ.offset B.zero give false else not (all_finite d.vertices)) where
  tested : t ≡ when eq σ.offset B.zero give false else not (all_finite (end_piece σ w).vertices)
  tested = told ∙ ap (λ (x : Drawing). when eq σ.offset B.zero give false else not (all_finite x.vertices)) is

  pub end-endless : t ≡ true → 6 ≡ end_refusal σ w
  unfolding end_refusal
  end-endless h = by (eq σ.offset B.zero) (all_finite (end_piece σ w).vertices) (sym tested ∙ h)
    where
      by : (a b : Bool) → (when a give false else not b) ≡ true → ◌≡◌ {A = ℕ} 6 (when a give 0 else when b give 0 else 6)
      by true b k = absurd (false≢true (unfold when◌give◌else◌ in k))
      by false true k = absurd (false≢true (unfold when◌give◌else◌ in k))
      by false false k = unfold when◌give◌else◌ in refl

  pub end-finite : t ≡ false → end_refusal σ w ≡ 0
  unfolding end_refusal
  end-finite h = by (eq σ.offset B.zero) (all_finite (end_piece σ w).vertices) (sym tested ∙ h)
    where
      by : (a b : Bool) → (when a give false else not b) ≡ false → ◌≡◌ {A = ℕ} (when a give 0 else when b give 0 else 6) 0
      by true b k = unfold when◌give◌else◌ in refl
      by false true k = unfold when◌give◌else◌ in refl
      by false false k = absurd (true≢false (unfold when◌give◌else◌ in k))
