-- The strokes of the code are the pieces of the rules: those of a vertex (`step-piece`), and those of the end (`last-piece`). Assumes nothing.
use mathlib.Core.Path.{◌≡◌, refl, sym, ap, ◌∙◌}
use mathlib.Core.List.{List, [], ◌∷◌, ◌++◌, map-append, append-nil}
use mathlib.Core.Bool.{Bool, true, false, not}
use Prim.Native.Nat.{ℕ, suc, ◌+◌, ◌-◌, ◌≤◌, ◌<◌}
use native.Mathlib.Omega.{arith}
use borrow.Author.Tests.{eqb-true, eqb-false, lt-ltb, le-ltb, eq-eqb, ne_eqb}
use lib.Dec.{eqb, ltb}
use lib.ListN.{length}
use lib.Ieee.{Float, eq, is_nan}
use Rattle.std.specs.Prelude.{Option, Some, None}
use Rattle.std.specs.Option.{option_to_list}
use Rattle.std.specs.Bool.{then_some}
use Rattle.floats.specs.Binary64 as B
use Rattle.floats.specs.Choice.{when◌give◌else◌, ◌and◌}
use Rattle.floats.proofs.Choice.{yes, no}
use Rattle.vectors.specs.declared.Vector2.{Vector2}
use Rattle.segments.specs.declared.Settings.{Settings}
use Rattle.segments.specs.declared.PlineVertex.{PlineVertex}
use Rattle.segments.specs.Vertex.{vertex_at}
use Rattle.segments.specs.Segment.{end_of}
use Rattle.segments.specs.InnerSteps.{full_seg, bulge_by}
use Rattle.joins.specs.declared.JoinBoundary.{JoinBoundary}
use Rattle.joins.specs.Corner.{is_pointed}
use Rattle.moves.specs.declared.Move.{Move}
use Rattle.moves.specs.declared.Pen.{Pen}
use Rattle.moves.specs.declared.Stroke.{Stroke}
use Rattle.moves.specs.declared.Stepped.{Stepped}
use Rattle.moves.specs.Reason.{is_invalid}
use Rattle.moves.specs.Made.{segment_of, span_move}
use Rattle.moves.specs.Drawing.{Drawing, nothing, kept, last_point, corners, flags_of, marks, mark, origins_of, finite_vertex, all_finite}
use Rattle.moves.specs.InnerSteps.{strokes, step_of, with_bulge, tip_before, tip_first, doubt_of, sure}
use Rattle.walk.specs.declared.Walk.{Walk}
use Rattle.walk.specs.declared.Turned.{Turned}
use Rattle.walk.specs.Walk.{join_at, open_last}
use Rattle.walk.specs.InnerSteps.{stands, Stood, stood, Turn, turn_to, turn_shown, after_span, span_to, drawn_by, strokes_by, pen_by}
use Rattle.walk.proofs.Turning.{Draws, one-drawn, row-drawn, strokes-both, pen-both}
use Rattle.sheet.specs.InnerSteps.{Coded}
use Rattle.sheet.proofs.Storing.{step-number, move_row}
use Rattle.sheet.proofs.Stored.{and-true}
use Rattle.course.specs.declared.Course.{Course}
use Rattle.course.specs.declared.Turning.{Turning}
use Rattle.course.specs.declared.Ending.{Ending}
use Rattle.course.specs.Course.{piece_from, ◌then◌, segment_in, held, entered, turn_moves, Step, turned, copy_of, copies, step_on, last_piece}
use Rattle.course.specs.InnerSteps.{numbers_by, vertices_by, piece_by, pen_in, stood_in, copy_stroke, copy_strokes, turn_strokes, step_strokes, strokes_in, left_at, ending_piece, just_ending}

-- ---- a stroke that is drawn, and one that is not

pub drawn-yes : (st : Stepped) → st.kept ≡ true → drawn_by 0 st ≡ st.stroke ∷ []
unfolding drawn_by ◌and◌
drawn-yes st h = sym (yes _ _ _ h refl)

pub drawn-no : (st : Stepped) → st.kept ≡ false → drawn_by 0 st ≡ []
unfolding drawn_by ◌and◌
drawn-no st h = sym (no _ _ _ h refl)

-- ---- whether numbers are finite

pub sure-is : (b : Bool) → sure (doubt_of b) ≡ b
unfolding is_nan
sure-is true = refl
sure-is false = refl

pub finite-drawn : (st : Stepped) → st.kept ≡ true → all_finite (vertices_by (drawn_by 0 st)) ≡ finite_vertex st.stroke.vertex
unfolding all_finite
finite-drawn st h = rw (drawn-yes st h) (and-true _)

pub finite-undrawn : (st : Stepped) → st.kept ≡ false → all_finite (vertices_by (drawn_by 0 st)) ≡ true
unfolding all_finite
finite-undrawn st h = rw (drawn-no st h)

pub finite-append : (vs ws : List PlineVertex) → all_finite (vs ++ ws) ≡ (all_finite vs and all_finite ws)
unfolding all_finite ◌and◌
finite-append [] ws = refl
finite-append (v ∷ vs) ws = by (finite_vertex v) (finite-append vs ws)
  where
    by : (t : Bool) → all_finite (vs ++ ws) ≡ (all_finite vs and all_finite ws) → (t and all_finite (vs ++ ws)) ≡ ((t and all_finite vs) and all_finite ws)
    by true h = h
    by false h = refl

pub finite-three : (t : Turning)
    → all_finite (vertices_by (strokes_in t)) ≡ (all_finite (vertices_by (drawn_by 0 t.span)) and (all_finite (vertices_by (drawn_by 0 t.tip)) and all_finite (vertices_by (drawn_by 0 t.connector))))
unfolding strokes_in
finite-three t =
    let a = drawn_by 0 t.span in
    let b = drawn_by 0 t.tip in
    let c = drawn_by 0 t.connector in
    rw (map-append, map-append)
    (finite-append (vertices_by a) (vertices_by b ++ vertices_by c) ∙ ap (λ (x : Bool). all_finite (vertices_by a) and x) (finite-append (vertices_by b) (vertices_by c)))

pub finite-ending : (e : Ending) (v : PlineVertex) → e.last ≡ Some v → all_finite (ending_piece e).vertices ≡ (all_finite (vertices_by (drawn_by 0 e.span)) and finite_vertex v)
unfolding ending_piece all_finite
finite-ending e v h = rw h (finite-append (vertices_by (drawn_by 0 e.span)) (v ∷ []) ∙ rw (and-true (finite_vertex v)))

pub finite_unended : (e : Ending) → e.last ≡ None → all_finite (ending_piece e).vertices ≡ all_finite (vertices_by (drawn_by 0 e.span))
unfolding ending_piece
finite_unended e h = rw (h, append-nil (vertices_by (drawn_by 0 e.span)))

-- ---- one after another

numbers-append : (ss ts : List Stroke) → numbers_by (ss ++ ts) ≡ numbers_by ss ++ numbers_by ts
unfolding numbers_by
numbers-append [] ts = refl
numbers-append (s ∷ ss) ts = by (is_invalid s.reason) (numbers-append ss ts)
  where
    by : (t : Bool) → numbers_by (ss ++ ts) ≡ numbers_by ss ++ numbers_by ts → mark t s.number.0 (numbers_by (ss ++ ts)) ≡ mark t s.number.0 (numbers_by ss) ++ numbers_by ts
    by true h = ap (λ (is : List ℕ). s.number.0 ∷ is) h
    by false h = h

pub piece-append : (ss ts : List Stroke) → piece_by (ss ++ ts) ≡ piece_by ss then piece_by ts
unfolding ◌then◌
piece-append ss ts = simp (map-append, numbers-append ss ts)

-- ---- of kept moves

pub piece-kept : (n : ℕ) (p : Vector2) (ks : List Move) → piece_by (strokes n p ks) ≡ piece_from p n ks
unfolding strokes corners flags_of marks origins_of numbers_by
piece-kept n p [] = refl
piece-kept n p (m ∷ ks) =
    let d = piece-kept (suc n) m.end ks in
    rw (ap (λ (e : Drawing). e.vertices) d, ap (λ (e : Drawing). e.flags) d, ap (λ (e : Drawing). e.indexes) d, ap (λ (e : Drawing). e.origins) d)

-- ---- the move to a tip, if there is one

module _ (pen : Pen) (j : JoinBoundary) (m : Move) (e : Float) where
  some-tip : is_pointed j.cause ≡ true → tip_first j m ≡ tip_before m j.tip ∷ []
  unfolding tip_first
  some-tip h = sym (yes _ _ _ h refl)

  no-tip : is_pointed j.cause ≡ false → tip_first j m ≡ []
  unfolding tip_first
  no-tip h = sym (no _ _ _ h refl)

  pub tip-some : is_pointed j.cause ≡ true
      → (drawn_by 0 (step_of pen (tip_before m j.tip) e) ≡ strokes_by 0 pen (tip_first j m) e) × ((step_of pen (tip_before m j.tip) e).pen ≡ pen_by pen (tip_first j m) e)
  unfolding pen_by
  tip-some h = (rw (some-tip h) (sym (move_row 0 pen (tip_before m j.tip) e)), rw (some-tip h))

  pub tip-none : (st : Stepped) → st.kept ≡ false → st.pen ≡ pen → is_pointed j.cause ≡ false
      → (drawn_by 0 st ≡ strokes_by 0 pen (tip_first j m) e) × (st.pen ≡ pen_by pen (tip_first j m) e)
  unfolding strokes_by pen_by
  tip-none st h k n = (rw (no-tip n) (drawn-no st h), rw (no-tip n) k)

-- ---- a turn

module _ (σ : Settings) (w : Course) (c : PlineVertex) where
  -- of the rules
  drawn : Draws σ.eps (pen_in w) (turn_moves σ w c) (strokes_by 0 (pen_in w) (turn_moves σ w c) σ.eps) (pen_by (pen_in w) (turn_moves σ w c) σ.eps)
  drawn = row-drawn σ.eps (pen_in w) (turn_moves σ w c)

  pub turn-piece : piece_by (turn_strokes σ w c) ≡ (turned σ w c).piece
  unfolding turn_strokes turned
  turn-piece = ap piece_by drawn.drawn ∙ piece-kept w.number w.point (kept σ.eps w.point (turn_moves σ w c))

  pub turn-course : left_at w c (join_at σ w.before w.last c).next_param (pen_by (pen_in w) (turn_moves σ w c) σ.eps) ≡ (turned σ w c).course
  unfolding turned
  turn-course = ap (left_at w c (join_at σ w.before w.last c).next_param) drawn.left

  -- of the walk that is taken up
  abbrev on : Turn
  on = turn_to (stood_in σ.offset w).walker c σ

  moves_on : turn_moves σ w c ≡ on.span ∷ on.connectors
  unfolding turn_moves turn_to stood_in join_at
  moves_on = refl

  param_on : on.walker.entry.next_param ≡ (join_at σ w.before w.last c).next_param
  unfolding turn_to stood_in join_at
  param_on = refl

  -- as the code goes
  module _ (k : Walk) (t : Turned) (first tip third : Stepped) {bulge : Float} {span : Move}
      (at : stood k ≡ stood_in σ.offset w) (to : turn_shown t ≡ turn_to (stands k) c σ)
      (b : bulge ≡ bulge_by t.curved t.sweep) (s : span ≡ with_bulge bulge t.span) (one : first ≡ step_of k.pen span σ.eps)
      (two : (drawn_by 0 tip ≡ strokes_by 0 first.pen (tip_first t.join t.connector) σ.eps) × (tip.pen ≡ pen_by first.pen (tip_first t.join t.connector) σ.eps))
      (three : third ≡ step_of tip.pen t.connector σ.eps) where
    shown : turn_shown t ≡ on
    unfolding stood_in
    shown = to ∙ ap (λ (x : Stood). turn_to x.walker c σ) at

    moves_are : turn_moves σ w c ≡ span ∷ after_span t
    moves_are = moves_on ∙ ap (λ (u : Turn). u.span ∷ u.connectors) (sym shown) ∙ rw (s, b)

    pen-is : k.pen ≡ pen_in w
    unfolding stood_in
    pen-is = ap (λ (x : Stood). x.pen) at

    first-is : first ≡ step_of (pen_in w) span σ.eps
    first-is = one ∙ ap (λ (p : Pen). step_of p span σ.eps) pen-is

    pub turn-strokes : drawn_by 0 first ++ (drawn_by 0 tip ++ drawn_by 0 third) ≡ turn_strokes σ w c
    unfolding turn_strokes strokes_by
    turn-strokes =
        let ts = tip_first t.join t.connector in
        let last : strokes_by 0 (pen_by first.pen ts σ.eps) (t.connector ∷ []) σ.eps ≡ drawn_by 0 third = move_row 0 _ t.connector σ.eps ∙ rw (← two.1, ← three) in
        let rest : strokes_by 0 first.pen (ts ++ t.connector ∷ []) σ.eps ≡ drawn_by 0 tip ++ drawn_by 0 third =
        strokes-both 0 first.pen ts (t.connector ∷ []) σ.eps ∙ rw (last, two.0) in
        sym (ap (λ (ms : List Move). strokes_by 0 (pen_in w) ms σ.eps) moves_are
        ∙ ap (λ (st : Stepped). drawn_by 0 st ++ strokes_by 0 st.pen (after_span t) σ.eps) (sym first-is)
        ∙ ap (λ (ss : List Stroke). drawn_by 0 first ++ ss) rest)

    pub turn-pen : third.pen ≡ pen_by (pen_in w) (turn_moves σ w c) σ.eps
    unfolding pen_by
    turn-pen =
        let ts = tip_first t.join t.connector in
        let rest : pen_by first.pen (ts ++ t.connector ∷ []) σ.eps ≡ third.pen = pen-both first.pen ts (t.connector ∷ []) σ.eps ∙ rw (three, two.1) in
        sym (ap (λ (ms : List Move). pen_by (pen_in w) ms σ.eps) moves_are ∙ ap (λ (st : Stepped). pen_by st.pen (after_span t) σ.eps) (sym first-is) ∙ rest)

    pub turn_left : {w' : Course} → w' ≡ left_at w c t.walk.entry.next_param third.pen → w' ≡ (turned σ w c).course
    turn_left e = e ∙ rw (turn-pen, ap (λ (u : Turn). u.walker.entry.next_param) shown ∙ param_on) turn-course

-- ---- what a vertex makes certain

copies-piece : (w : Course) → piece_by (copy_strokes w) ≡ copies w
unfolding copy_strokes copies numbers_by when◌give◌else◌
copies-piece w = by (eqb w.taken 0)
  where
    by : (t : Bool) → piece_by (when t give [] else copy_stroke w ∷ []) ≡ when t give nothing else copy_of w
    by true = refl
    by false = refl

module _ (σ : Settings) (w : Course) (c : PlineVertex) where
  -- z, o, l: none, one, fewer than two are taken
  walked-piece : (z o l : Bool) → (z ≡ true → l ≡ true) → (o ≡ true → l ≡ true) → (z ≡ false → o ≡ false → l ≡ false)
      → piece_by (when l give [] else turn_strokes σ w c)
      ≡ (when z give record { piece = nothing; course = held w c } else when o give record { piece = nothing; course = entered σ w c } else turned σ w c).piece
  unfolding when◌give◌else◌ numbers_by
  walked-piece true o l p q r = rw (p refl)
  walked-piece false true l p q r = rw (q refl)
  walked-piece false false l p q r = rw (r refl refl) (turn-piece σ w c)

  pub step-piece : piece_by (step_strokes σ w c) ≡ (step_on σ w c).piece
  unfolding step_strokes step_on
  step-piece = by (eq σ.offset B.zero)
    where
      by : (t : Bool) → piece_by (when t give copy_strokes w else when ltb w.taken 2 give [] else turn_strokes σ w c)
          ≡ (when t give record { piece = copies w; course = held w c } else when eqb w.taken 0 give record { piece = nothing; course = held w c } else
          when eqb w.taken 1 give record { piece = nothing; course = entered σ w c } else turned σ w c).piece
      by true = unfold when◌give◌else◌ in copies-piece w
      by false =
          unfold when◌give◌else◌ in
          walked-piece (eqb w.taken 0) (eqb w.taken 1) (ltb w.taken 2) (λ e. lt-ltb w.taken 2 (let n = eqb-true w.taken 0 e in omega arith)) (λ e. lt-ltb w.taken 2 (let n = eqb-true w.taken 1 e in omega arith))
          (λ e f. le-ltb w.taken 2 (omega (arith, eqb-false w.taken 0 e, eqb-false w.taken 1 f)))

-- ---- the end

pub just_ending_lem : (e : Ending) → drawn_by 0 e.span ≡ [] → ending_piece e ≡ just_ending e.last
unfolding ending_piece numbers_by
just_ending_lem e h = rw h (by e.last)
  where
    by : (o : Option PlineVertex) → ◌≡◌ {A = Drawing} (record { vertices = option_to_list o; flags = []; indexes = []; origins = []; closed = false }) (just_ending o)
    by (Some v) = refl
    by None = refl

module _ (σ : Settings) (w : Course) (st : Stepped) {m : Move} (is : m ∷ [] ≡ open_last (w.taken - 2) (segment_in σ w) w.start_param) (at : st ≡ step_of (pen_in w) m σ.eps) where
  abbrev ks : List Move
  ks = kept σ.eps w.point (open_last (w.taken - 2) (segment_in σ w) w.start_param)

  last : Draws σ.eps (pen_in w) (m ∷ []) (drawn_by 0 st) st.pen
  last = rw at (one-drawn σ.eps (pen_in w) m)

  strokes_are : drawn_by 0 st ≡ strokes w.number w.point ks
  strokes_are = last.drawn ∙ rw is

  pub last-piece : ending_piece (record { span = st; last = then_some (not (eqb st.pen.number.0 0)) (vertex_at st.pen.last B.zero) }) ≡ last_piece σ w
  unfolding ending_piece last_piece
  last-piece = rw (strokes_are, last.left, is) (by (eqb (w.number + length ks) 0) refl)
    where
      by : (t : Bool) → eqb (w.number + length ks) 0 ≡ t → ◌≡◌ {A = Drawing} (record {
        vertices = vertices_by (strokes w.number w.point ks) ++ option_to_list (then_some (not t) (vertex_at (last_point w.point ks) B.zero));
        flags = (piece_by (strokes w.number w.point ks)).flags;
        indexes = (piece_by (strokes w.number w.point ks)).indexes;
        origins = (piece_by (strokes w.number w.point ks)).origins;
        closed = false;
      }) (when t give nothing else record {
        vertices = corners w.point ks ++ vertex_at (last_point w.point ks) B.zero ∷ [];
        flags = flags_of ks;
        indexes = marks w.number ks;
        origins = origins_of ks;
        closed = false;
      })
      by true h = unfold when◌give◌else◌ in none ks (let e = eqb-true (w.number + length ks) 0 h in omega arith)
        where
          none : (ls : List Move) → length ls ≡ 0 → ◌≡◌ {A = Drawing} (record {
            vertices = vertices_by (strokes w.number w.point ls) ++ [];
            flags = (piece_by (strokes w.number w.point ls)).flags;
            indexes = (piece_by (strokes w.number w.point ls)).indexes;
            origins = (piece_by (strokes w.number w.point ls)).origins;
            closed = false;
          }) nothing
          none [] e = unfold strokes numbers_by in refl
          none (l ∷ ls) e = absurd (omega arith)
      by false h =
          let d = piece-kept w.number w.point ks in
          unfold when◌give◌else◌ in rw (ap (λ (e : Drawing). e.vertices) d, ap (λ (e : Drawing). e.flags) d, ap (λ (e : Drawing). e.indexes) d, ap (λ (e : Drawing). e.origins) d)

-- as the code goes
pub last-span-is : (σ : Settings) (w : Course) (k : Walk) (st : Stepped) {end : Vector2} {m : Move} {v : PlineVertex} → stood k ≡ stood_in σ.offset w → end ≡ end_of (full_seg k.current)
    → m ≡ span_to (stands k) end B.one → st ≡ step_of k.pen m σ.eps → v ≡ vertex_at st.pen.last B.zero
    → ending_piece (record { span = st; last = then_some (not (eqb st.pen.number.0 0)) v }) ≡ last_piece σ w
unfolding stood_in open_last
last-span-is σ w k st {end} {m} at e s d v =
    let x = ap (λ (y : Stood). span_to y.walker (end_of y.walker.current) B.one) at in
    let p = ap (λ (y : Stood). y.pen) at in
    rw v (last-piece σ w st (ap (λ (n : Move). n ∷ []) (s ∙ ap (λ (q : Vector2). span_to (stands k) q B.one) e ∙ x)) (d ∙ rw p))

-- a walk that is taken up has the number that is held
pub pen-number : (offset : Float) (w : Course) (k : Walk) → stood k ≡ stood_in offset w → k.pen.number.0 ≡ w.number
unfolding stood_in
pen-number offset w k at = ap (λ (y : Stood). y.pen.number.0) at

pub source-number : (offset : Float) (w : Course) (k : Walk) → stood k ≡ stood_in offset w → k.source.0 ≡ w.taken - 2
unfolding stood_in
source-number offset w k at = ap (λ (y : Stood). y.walker.source.0) at

pub vertex-held : (offset : Float) (w : Course) (k : Walk) → stood k ≡ stood_in offset w → k.vertex ≡ w.last
unfolding stood_in
vertex-held offset w k at = ap (λ (y : Stood). y.walker.vertex) at

-- a stroke has its move's origin, which is that of the segment held
pub stepped_coded : (pen : Pen) (m : Move) (e : Float) → Coded m.origin → Coded (step_of pen m e).stroke.origin
unfolding step_of
stepped_coded pen m e k = k

pub span-origin : (σ : Settings) (w : Course) (c : PlineVertex) (k : Walk) (t : Turned) → stood k ≡ stood_in σ.offset w → turn_shown t ≡ turn_to (stands k) c σ → w.taken < 4096
    → Coded t.span.origin
unfolding stood_in turn_to span_move
span-origin σ w c k t at to h =
    let o = ap (λ (u : Turn). segment_of u.span.origin) to in
    let i = ap (λ (y : Stood). y.walker.source.0) at in
    omega arith

pub connector-origin : (offset : Float) (w : Course) (k : Walk) (t : Turned) → stood k ≡ stood_in offset w → segment_of t.connector.origin ≡ k.source.0 → w.taken < 4096 → Coded t.connector.origin
connector-origin offset w k t at o h = let i = source-number offset w k at in omega arith

pub both-and : {A B C : Type 0} → A × B → C → A × B × C
both-and p c = (p.0, p.1, c)

pub stepped-number : (pen : Pen) (m : Move) (e : Float) (st : Stepped) → st ≡ step_of pen m e → st.pen.number.0 ≤ pen.number.0 + 1
stepped-number pen m e st h = rw h (step-number pen m e)

-- ---- what a vertex makes certain, by the tests of the code

pub two-taken : {n : ℕ} → (n ≡ 0 → ⊥) → (n ≡ 1 → ⊥) → 2 ≤ n
two-taken p q = omega (arith, p, q)

module _ (σ : Settings) (w : Course) (c : PlineVertex) where
  abbrev On : List Stroke → Course → Type 0
  On ss w' = (ss ≡ step_strokes σ w c) × (w' ≡ (step_on σ w c).course)

  pub copied_on : {ss : List Stroke} {w' : Course} → eq σ.offset B.zero ≡ true → ss ≡ copy_strokes w → w' ≡ held w c → On ss w'
  unfolding step_strokes step_on
  copied_on z s e = (yes _ _ _ z s, e ∙ ap (λ (t : Step). t.course) (yes _ _ _ z refl))

  module _ (z : eq σ.offset B.zero ≡ false) where
    pub held_on : {ss : List Stroke} {w' : Course} → w.taken ≡ 0 → ss ≡ [] → w' ≡ held w c → On ss w'
    unfolding step_strokes step_on
    held_on n s e = (no _ _ _ z (yes _ _ _ (lt-ltb w.taken 2 (omega arith)) s), e ∙ ap (λ (t : Step). t.course) (no _ _ _ z (yes _ _ _ (eq-eqb _ _ n) refl)))

    pub entered_on : {ss : List Stroke} {w' : Course} → w.taken ≡ 1 → ss ≡ [] → w' ≡ entered σ w c → On ss w'
    unfolding step_strokes step_on
    entered_on n s e =
        (no _ _ _ z (yes _ _ _ (lt-ltb w.taken 2 (omega arith)) s), e ∙ ap (λ (t : Step). t.course) (no _ _ _ z (no _ _ _ (ne_eqb w.taken 0 (λ h. omega arith)) (yes _ _ _ (eq-eqb _ _ n) refl))))

    pub turned_on : {ss : List Stroke} {w' : Course} → 2 ≤ w.taken → ss ≡ turn_strokes σ w c → w' ≡ (turned σ w c).course → On ss w'
    unfolding step_strokes step_on
    turned_on n s e =
        (no _ _ _ z (no _ _ _ (le-ltb _ _ n) s), e ∙ ap (λ (t : Step). t.course) (no _ _ _ z (no _ _ _ (ne_eqb w.taken 0 (λ h. omega arith)) (no _ _ _ (ne_eqb w.taken 1 (λ h. omega arith)) refl))))
