-- What is held and handed out after vertices that were all taken (`Reached`): each vertex leads on (`reach_on`), with the end it is the whole drawing (`whole`), and it begins the drawing of any
-- longer list (`begins`). Assumes nothing.
use mathlib.Core.Path.{◌≡◌, refl, sym, ap, ◌∙◌}
use mathlib.Core.List.{List, [], ◌∷◌, ◌++◌, append_assoc, append-nil}
use mathlib.Core.Bool.{Bool, true, false, true≢false}
use Prim.Native.Nat.{ℕ, zero, suc, ◌+◌, ◌-◌, ◌≤◌, ◌<◌}
use native.Mathlib.Nat.{zero-add, add-suc, suc-add, add-zero}
use native.Mathlib.Omega.{arith}
use borrow.Author.Tests.{eqb-true, eqb-false, lt-ltb, le-ltb, ne_eqb}
use lib.Dec.{eqb}
use lib.ListN.{length, replicate, length-append, replicate-append-replicate}
use lib.Seq.{append_snoc}
use lib.Ieee.{Float, eq}
use Rattle.floats.specs.Binary64 as B
use Rattle.floats.specs.Choice.{when◌give◌else◌, ◌and◌}
use Rattle.floats.proofs.Choice.{yes, no, and_no, both_pass}
use Rattle.vectors.specs.Plane.{near}
use Rattle.vectors.specs.declared.Vector2.{Vector2}
use Rattle.segments.specs.declared.Settings.{Settings}
use Rattle.segments.specs.declared.PlineVertex.{PlineVertex}
use Rattle.segments.specs.declared.RawOffsetSeg.{RawOffsetSeg}
use Rattle.segments.specs.Vertex.{vertex_at}
use Rattle.segments.specs.Segment.{offset_seg, start_of, is_collapsed}
use Rattle.source.specs.Source.{segments_of}
use Rattle.source.proofs.Segments.{segments_open}
use Rattle.refusals.proofs.First.{by_test}
use Rattle.moves.specs.declared.Move.{Move}
use Rattle.moves.specs.declared.Origin.{Origin}
use Rattle.moves.specs.declared.Origin.TheVariants.{Span}
use Rattle.moves.specs.Moves as M
use Rattle.moves.specs.Drawing.{Drawing, nothing, move_end, kept, last_point, corners, flags_of, marks, origins_of, drawn_open}
use Rattle.moves.specs.InnerSteps.{strokes}
use Rattle.moves.proofs.Kept as K
use Rattle.moves.proofs.Strokes.{strokes-append}
use Rattle.moves.proofs.Shapes.{ray, open_none, open_some}
use Rattle.walk.specs.Walk.{join_at, walk, open_last, walk_start, walk_moves, walk_drawing, lone_collapsed, drawing_of, spans_from, copied}
use Rattle.course.specs.declared.Course.{Course}
use Rattle.course.specs.Course.{piece_from, ◌then◌, no_course, segment_in, Step, held, entered, turn_moves, turned, copy_of, copies, step_on, last_piece, end_piece}
use Rattle.course.specs.Joined.{drawn_whole, Beginning}
use Rattle.course.specs.InnerSteps.{piece_by}
use Rattle.course.proofs.Strokes.{piece-append, piece-kept}
use Rattle.course.proofs.Counts.{step_by}

-- ---- pieces one after another

pub then_assoc : (c d e : Drawing) → (c then d) then e ≡ c then (d then e)
unfolding ◌then◌
then_assoc c d e = simp append_assoc

pub then-nothing : (d : Drawing) → d.closed ≡ false → d then nothing ≡ d
unfolding ◌then◌
then-nothing d o = rw (append-nil d.vertices, append-nil d.flags, append-nil d.indexes, append-nil d.origins, ← o)

drawing-is : (v v' : List PlineVertex) (f f' i i' : List ℕ) (o o' : List Origin) (c c' : Bool) → v ≡ v' → f ≡ f' → i ≡ i' → o ≡ o' → c ≡ c'
    → ◌≡◌ {A = Drawing} (record { vertices = v; flags = f; indexes = i; origins = o; closed = c }) (record { vertices = v'; flags = f'; indexes = i'; origins = o'; closed = c' })
drawing-is v v' f f' i i' o o' c c' p q r s t = cc

pub same-drawing : (d e : Drawing) → d.vertices ≡ e.vertices → d.flags ≡ e.flags → d.indexes ≡ e.indexes → d.origins ≡ e.origins → d.closed ≡ e.closed → d ≡ e
same-drawing d e v f i o c = drawing-is _ _ _ _ _ _ _ _ _ _ v f i o c

pub nothing_begins : (e : Drawing) → Beginning nothing e
nothing_begins e = record {
  vertices = e.vertices;
  flags = e.flags;
  indexes = e.indexes;
  origins = e.origins;
  vertices-begin = refl;
  flags-begin = refl;
  indexes-begin = refl;
  origins-begin = refl;
}

-- of kept moves, one row after another
piece-more : (p : Vector2) (n : ℕ) (ks ls : List Move) → piece_from p n (ks ++ ls) ≡ piece_from p n ks then piece_from (last_point p ks) (n + length ks) ls
piece-more p n ks ls =
    sym (piece-kept n p (ks ++ ls))
    ∙ ap piece_by (strokes-append n p ks ls)
    ∙ piece-append (strokes n p ks) (strokes (n + length ks) (last_point p ks) ls)
    ∙ rw (piece-kept n p ks, piece-kept (n + length ks) (last_point p ks) ls)

pieces-meet : (p q : Vector2) (n : ℕ) (ks ls : List Move) → q ≡ last_point p ks → n ≡ length ks → piece_from p 0 ks then piece_from q n ls ≡ piece_from p 0 (ks ++ ls)
pieces-meet p q n ks ls e f = rw (e, f) (sym (rw zero-add at (piece-more p 0 ks ls)))

-- ---- an offset of zero: all vertices but the last, which is held

pub record Copying (vs : List PlineVertex) (p : Drawing) (w : Course) : Type 0 where
  pub vertices : p.vertices ++ w.last ∷ [] ≡ vs
  pub flags : p.flags ≡ replicate (length p.vertices) 0
  pub indexes : p.indexes ≡ []
  pub origins : p.origins ≡ spans_from 0 (length p.vertices)
  pub unclosed : p.closed ≡ false
  pub taken : w.taken ≡ length p.vertices + 1

-- ---- any other offset, from a and b on: the moves of the walk up to the segment that is held

abbrev pub start_at : Settings → PlineVertex → PlineVertex → Vector2
start_at σ a b = start_of (offset_seg a b σ.offset)

pub record Walking (σ : Settings) (a b : PlineVertex) (ws : List PlineVertex) (p : Drawing) (w : Course) : Type 0 where
  pub moves : List Move
  pub on : (last : ℕ → RawOffsetSeg → Float → List Move) (us : List PlineVertex)
      → walk last σ 0 a b B.zero (ws ++ us) ≡ moves ++ walk last σ (w.taken - 2) w.before w.last w.start_param us
  pub piece : p ≡ piece_from (start_at σ a b) 0 (kept σ.eps (start_at σ a b) moves)
  pub point : w.point ≡ last_point (start_at σ a b) (kept σ.eps (start_at σ a b) moves)
  pub number : w.number ≡ length (kept σ.eps (start_at σ a b) moves)
  pub taken : w.taken ≡ length ws + 2
  pub lone : lone_collapsed false σ (a ∷ b ∷ ws) ≡ (eqb w.taken 2 and is_collapsed (segment_in σ w))
  pub fore : List PlineVertex
  pub ends : fore ++ w.before ∷ w.last ∷ [] ≡ a ∷ b ∷ ws

kept_on : {σ : Settings} {a b : PlineVertex} {ws : List PlineVertex} {p : Drawing} {w : Course} (k : Walking σ a b ws p w) (ns : List Move)
    → kept σ.eps (start_at σ a b) (k.moves ++ ns) ≡ kept σ.eps (start_at σ a b) k.moves ++ kept σ.eps w.point ns
kept_on {σ} {a} {b} k ns = K.kept_append move_end (λ x y. near x y σ.eps) (start_at σ a b) k.moves ns ∙ rw k.point

pub data Reached (σ : Settings) : List PlineVertex → Drawing → Course → Type 0 where
  none : Reached σ [] nothing no_course
  copying : {vs : List PlineVertex} {p : Drawing} {w : Course} → eq σ.offset B.zero ≡ true → Copying vs p w → Reached σ vs p w
  one : {a : PlineVertex} → eq σ.offset B.zero ≡ false → Reached σ (a ∷ []) nothing (held no_course a)
  walking : {a b : PlineVertex} {ws : List PlineVertex} {p : Drawing} {w : Course} → eq σ.offset B.zero ≡ false → Walking σ a b ws p w → Reached σ (a ∷ b ∷ ws) p w

-- ---- one vertex more

spans_both : (i m n : ℕ) → spans_from i m ++ spans_from (i + m) n ≡ spans_from i (m + n)
unfolding spans_from
spans_both i zero n = rw (add-zero, zero-add)
spans_both i (suc m) n = rw (add-suc, suc-add) (ap (λ (os : List Origin). Span (record { 0 = i }) ∷ os) (rw suc-add at (spans_both (suc i) m n)))

copy_on : (vs : List PlineVertex) (p : Drawing) (w : Course) (c : PlineVertex) → Copying vs p w → Copying (vs ++ c ∷ []) (p then copy_of w) (held w c)
unfolding ◌then◌ held spans_from
copy_on vs p w c k =
    let n = length p.vertices in
    let l : length (p.vertices ++ w.last ∷ []) ≡ n + 1 = length-append p.vertices (w.last ∷ []) in
    let i : w.taken - 1 ≡ n = omega (arith, k.taken) in
    record {
      vertices = ap (λ (us : List PlineVertex). us ++ c ∷ []) k.vertices;
      flags = rw (l, k.flags) (replicate-append-replicate n 1 0);
      indexes = rw k.indexes;
      origins = rw (l, k.origins, i) (rw zero-add at (spans_both 0 n 1));
      unclosed = refl;
      taken = rw l (omega (arith, k.taken));
    }

copy-first : (c : PlineVertex) → Copying (c ∷ []) (nothing then copies no_course) (held no_course c)
unfolding ◌then◌ held spans_from copies when◌give◌else◌
copy-first c = record { vertices = refl; flags = refl; indexes = refl; origins = refl; unclosed = refl; taken = refl }

walk-second : (σ : Settings) (a c : PlineVertex) → Walking σ a c [] (nothing then nothing) (entered σ (held no_course a) c)
unfolding ◌then◌ held entered lone_collapsed ◌and◌ M.kept M.last_point corners flags_of marks origins_of
walk-second σ a c = record { moves = []; on = λ last us. refl; piece = refl; point = refl; number = refl; taken = refl; lone = refl; fore = []; ends = refl }

lone-more : (σ : Settings) (a b c : PlineVertex) (ws : List PlineVertex) → lone_collapsed false σ (a ∷ b ∷ (ws ++ c ∷ [])) ≡ false
unfolding lone_collapsed
lone-more σ a b c [] = refl
lone-more σ a b c (d ∷ ws) = refl

-- the walk goes on by the moves of the turn
turn_on : (σ : Settings) (w : Course) (c : PlineVertex) (last : ℕ → RawOffsetSeg → Float → List Move) (us : List PlineVertex) → 2 ≤ w.taken
    → walk last σ (w.taken - 2) w.before w.last w.start_param (c ∷ us)
    ≡ turn_moves σ w c ++ walk last σ (w.taken + 1 - 2) w.last c (join_at σ w.before w.last c).next_param us
unfolding walk turn_moves
turn_on σ w c last us h = let e : w.taken + 1 - 2 ≡ suc (w.taken - 2) = omega arith in rw e

walk_on : (σ : Settings) (a b : PlineVertex) (ws : List PlineVertex) (p : Drawing) (w : Course) (c : PlineVertex) → Walking σ a b ws p w
    → Walking σ a b (ws ++ c ∷ []) (p then (turned σ w c).piece) (turned σ w c).course
unfolding turned
walk_on σ a b ws p w c k =
    let s = start_at σ a b in
    let ms = k.moves in
    let ts = turn_moves σ w c in
    let ks = kept σ.eps s ms in
    let ls = kept σ.eps w.point ts in
    let all : kept σ.eps s (ms ++ ts) ≡ ks ++ ls = kept_on k ts in
    let two : 2 ≤ w.taken = omega (arith, k.taken) in
    record {
      moves = ms ++ ts;
      on = λ last us. ap (walk last σ 0 a b B.zero) (append_snoc ws c us) ∙ k.on last (c ∷ us) ∙ ap (λ (ns : List Move). ms ++ ns) (turn_on σ w c last us two) ∙ sym (append_assoc ms ts _);
      piece = rw (all, k.piece) (pieces-meet s w.point w.number ks ls k.point k.number);
      point = ap (λ (q : Vector2). last_point q ls) k.point ∙ rw all (sym (K.last_point-append move_end s ks ls));
      number = ap (λ (n : ℕ). n + length ls) k.number ∙ rw all (sym (length-append ks ls));
      taken = omega (arith, k.taken, length-append ws (c ∷ []));
      lone = lone-more σ a b c ws ∙ and_no _ _ (ne_eqb (w.taken + 1) 2 (λ e. omega arith)) refl;
      fore = k.fore ++ w.before ∷ [];
      ends = append_snoc k.fore w.before (w.last ∷ c ∷ []) ∙ sym (append_assoc k.fore (w.before ∷ w.last ∷ []) (c ∷ [])) ∙ ap (λ (us : List PlineVertex). us ++ c ∷ []) k.ends;
    }

first_one : (σ : Settings) (c : PlineVertex) → eq σ.offset B.zero ≡ false → Reached σ (c ∷ []) (nothing then nothing) (held no_course c)
unfolding ◌then◌
first_one σ c z = one z

copies-some : (w : Course) → 1 ≤ w.taken → copies w ≡ copy_of w
unfolding copies
copies-some w h = sym (no _ _ _ (ne_eqb w.taken 0 (λ e. omega arith)) refl)

pub reach_on : (σ : Settings) {vs : List PlineVertex} {p : Drawing} {w : Course} (c : PlineVertex) → Reached σ vs p w
    → Reached σ (vs ++ c ∷ []) (p then (step_on σ w c).piece) (step_on σ w c).course
unfolding held
reach_on σ c none =
    step_by (λ (s : Step). Reached σ (c ∷ []) (nothing then s.piece) s.course) σ no_course c
    (λ z. copying z (copy-first c)) (λ z n. first_one σ c z) (λ z n. absurd (omega arith)) (λ z n. absurd (omega arith))
reach_on σ {vs} {p} {w} c (copying z k) =
    step_by (λ (s : Step). Reached σ (vs ++ c ∷ []) (p then s.piece) s.course) σ w c
    (λ y. copying z (rw (copies-some w (omega (arith, k.taken))) (copy_on vs p w c k))) (λ y n. absurd (true≢false (sym z ∙ y))) (λ y n. absurd (true≢false (sym z ∙ y))) (λ y n. absurd (true≢false (sym z ∙ y)))
reach_on σ c (one {a} z) =
    step_by (λ (s : Step). Reached σ (a ∷ c ∷ []) (nothing then s.piece) s.course) σ (held no_course a) c
    (λ y. absurd (true≢false (sym y ∙ z))) (λ y n. absurd (omega arith)) (λ y n. walking z (walk-second σ a c)) (λ y n. absurd (omega arith))
reach_on σ {p = p} {w = w} c (walking {a} {b} {ws} z k) =
    step_by (λ (s : Step). Reached σ (a ∷ b ∷ (ws ++ c ∷ [])) (p then s.piece) s.course) σ w c
    (λ y. absurd (true≢false (sym y ∙ z))) (λ y n. absurd (omega (arith, k.taken))) (λ y n. absurd (omega (arith, k.taken))) (λ y n. walking z (walk_on σ a b ws p w c k))

-- ---- the drawing of all vertices, and the end, by cases

pub whole-few : (σ : Settings) (vs : List PlineVertex) → length vs < 2 → drawn_whole σ vs ≡ nothing
unfolding drawn_whole
whole-few σ vs h = sym (yes _ _ _ (lt-ltb _ _ h) refl)

pub whole-copied : (σ : Settings) (vs : List PlineVertex) → eq σ.offset B.zero ≡ true → 2 ≤ length vs → drawn_whole σ vs ≡ copied false vs
unfolding drawn_whole
whole-copied σ vs z h = sym (no _ _ _ (le-ltb _ _ h) (yes _ _ _ z refl))

pub whole-drawn : (σ : Settings) (vs : List PlineVertex) → eq σ.offset B.zero ≡ false → 2 ≤ length vs → drawn_whole σ vs ≡ drawing_of false σ vs
unfolding drawn_whole
whole-drawn σ vs z h = sym (no _ _ _ (le-ltb _ _ h) (no _ _ _ z refl))

whole-walked : (σ : Settings) (a b : PlineVertex) (ws : List PlineVertex) → eq σ.offset B.zero ≡ false
    → drawn_whole σ (a ∷ b ∷ ws) ≡ when lone_collapsed false σ (a ∷ b ∷ ws) give nothing else walk_drawing false σ a b ws
unfolding drawing_of
whole-walked σ a b ws z = whole-drawn σ (a ∷ b ∷ ws) z (omega arith)

end-few : (σ : Settings) (w : Course) → w.taken < 2 → end_piece σ w ≡ nothing
unfolding end_piece
end-few σ w h = sym (yes _ _ _ (lt-ltb _ _ h) refl)

end-copied : (σ : Settings) (w : Course) → eq σ.offset B.zero ≡ true → 2 ≤ w.taken → end_piece σ w ≡ record { vertices = w.last ∷ []; flags = []; indexes = []; origins = []; closed = false }
unfolding end_piece
end-copied σ w z h = sym (no _ _ _ (le-ltb _ _ h) (yes _ _ _ z refl))

end-walked : (σ : Settings) (w : Course) → eq σ.offset B.zero ≡ false → 2 ≤ w.taken → end_piece σ w ≡ when eqb w.taken 2 and is_collapsed (segment_in σ w) give nothing else last_piece σ w
unfolding end_piece
end-walked σ w z h = sym (no _ _ _ (le-ltb _ _ h) (no _ _ _ z refl))

-- ---- an offset of zero

module _ {vs : List PlineVertex} {p : Drawing} {w : Course} (k : Copying vs p w) where
  copy-length : length vs ≡ length p.vertices + 1
  copy-length = ap length (sym k.vertices) ∙ length-append p.vertices (w.last ∷ [])

  none-copied : length p.vertices ≡ 0 → p ≡ nothing
  none-copied h = by p.vertices refl h
    where
      by : (us : List PlineVertex) → p.vertices ≡ us → length us ≡ 0 → p ≡ nothing
      by [] e h =
          unfold spans_from in
          same-drawing p nothing e (k.flags ∙ ap (λ (us : List PlineVertex). replicate (length us) 0) e) k.indexes (k.origins ∙ ap (λ (us : List PlineVertex). spans_from 0 (length us)) e) k.unclosed
      by (u ∷ us) e h = absurd (omega arith)

  -- how many segments so many vertices have
  segments : (n : ℕ) → 0 < n → segments_of false (n + 1) ≡ n
  segments n h = segments_open (n + 1) (omega arith) ∙ omega arith

  copied-whole : (σ : Settings) → eq σ.offset B.zero ≡ true → p then end_piece σ w ≡ drawn_whole σ vs
  unfolding ◌then◌ copied
  copied-whole σ z =
      let n = length p.vertices in
      let l = copy-length in
      let t = k.taken in
      by_test (eqb n 0)
      (λ (e : eqb n 0 ≡ true). let h = eqb-true n 0 e in rw (end-few σ w (omega arith), whole-few σ vs (omega arith), none-copied h))
      (λ (e : eqb n 0 ≡ false). let h = eqb-false n 0 e in rw (end-copied σ w z (omega arith), whole-copied σ vs z (omega arith)) (some (omega arith)))
    where
      some : 0 < length p.vertices → p then record { vertices = w.last ∷ []; flags = []; indexes = []; origins = []; closed = false } ≡ copied false vs
      some h =
          let e : segments_of false (length vs) ≡ length p.vertices = ap (segments_of false) copy-length ∙ segments (length p.vertices) h in
          same-drawing _ _ k.vertices (append-nil p.flags ∙ k.flags ∙ rw e) (rw k.indexes) (append-nil p.origins ∙ k.origins ∙ rw e) refl

  -- it begins the copy of a longer list
  copied_begins : (σ : Settings) (us : List PlineVertex) → eq σ.offset B.zero ≡ true → Beginning p (drawn_whole σ (vs ++ us))
  unfolding copied
  copied_begins σ us z =
      let n = length p.vertices in
      let l : length (vs ++ us) ≡ n + 1 + length us = length-append vs us ∙ rw copy-length in
      by_test (eqb n 0) (λ (e : eqb n 0 ≡ true). rw (none-copied (eqb-true n 0 e)) (nothing_begins _))
      (λ (e : eqb n 0 ≡ false). let h = eqb-false n 0 e in rw (whole-copied σ (vs ++ us) z (omega arith)) (some l (omega arith)))
    where
      some : length (vs ++ us) ≡ length p.vertices + 1 + length us → 0 < length p.vertices → Beginning p (copied false (vs ++ us))
      some l h =
          let n = length p.vertices in
          let e : segments_of false (length (vs ++ us)) ≡ n + length us = segments_open (length (vs ++ us)) (omega arith) ∙ omega arith in
          record {
            vertices = w.last ∷ us;
            flags = replicate (length us) 0;
            indexes = [];
            origins = spans_from n (length us);
            vertices-begin = sym (append_snoc p.vertices w.last us) ∙ ap (λ (ts : List PlineVertex). ts ++ us) k.vertices;
            flags-begin = rw (e, k.flags) (replicate-append-replicate n (length us) 0);
            indexes-begin = rw k.indexes;
            origins-begin = rw (e, k.origins) (rw zero-add at (spans_both 0 n (length us)));
          }

-- ---- any other offset

no-moves : {σ : Settings} {a b : PlineVertex} (ws : List PlineVertex) {p : Drawing} {w : Course} (k : Walking σ a b ws p w) → length ws ≡ 0 → p ≡ nothing
unfolding walk M.kept corners flags_of marks origins_of
no-moves {σ} {a} {b} [] k h =
    let e : k.moves ≡ [] = sym (append-nil k.moves) ∙ sym (k.on (λ i g t. []) []) in
    k.piece ∙ ap (λ (ms : List Move). piece_from (start_at σ a b) 0 (kept σ.eps (start_at σ a b) ms)) e
no-moves (c ∷ ws) k h = absurd (omega arith)

-- the last span and the last point after kept moves
end-drawn : (s q : Vector2) (n : ℕ) (ks ls : List Move) → q ≡ last_point s ks → n ≡ length ks
    → piece_from s 0 ks then (when eqb (n + length ls) 0 give nothing else record {
      vertices = corners q ls ++ vertex_at (last_point q ls) B.zero ∷ [];
      flags = flags_of ls;
      indexes = marks n ls;
      origins = origins_of ls;
      closed = false;
    }) ≡ drawn_open s (ks ++ ls)
unfolding ◌then◌ when◌give◌else◌
end-drawn s q n ks ls e f = by (eqb (n + length ls) 0) refl
  where
    some : piece_from s 0 ks then record { vertices = corners q ls ++ vertex_at (last_point q ls) B.zero ∷ []; flags = flags_of ls; indexes = marks n ls; origins = origins_of ls; closed = false } ≡ ray s (ks ++ ls)
    some =
        let m = pieces-meet s q n ks ls e f in
        let t : last_point q ls ≡ last_point s (ks ++ ls) = ap (λ (r : Vector2). last_point r ls) e ∙ sym (K.last_point-append move_end s ks ls) in
        same-drawing _ _ (sym (append_assoc (corners s ks) (corners q ls) _) ∙ rw (ap (λ (d : Drawing). d.vertices) m, t)) (ap (λ (d : Drawing). d.flags) m) (ap (λ (d : Drawing). d.indexes) m)
        (ap (λ (d : Drawing). d.origins) m) refl

    empty : (ks : List Move) → length ks ≡ 0 → piece_from s 0 ks then nothing ≡ nothing
    empty [] h = unfold corners flags_of marks origins_of in refl
    empty (k ∷ ks) h = absurd (omega arith)

    by : (t : Bool) → eqb (n + length ls) 0 ≡ t
        → piece_from s 0 ks then (when t give nothing else record { vertices = corners q ls ++ vertex_at (last_point q ls) B.zero ∷ []; flags = flags_of ls; indexes = marks n ls; origins = origins_of ls; closed = false }) ≡ drawn_open s (ks ++ ls)
    by true h = let z = eqb-true (n + length ls) 0 h in empty ks (omega arith) ∙ sym (open_none s (ks ++ ls) (omega (arith, length-append ks ls)))
    by false h = let z = eqb-false (n + length ls) 0 h in some ∙ sym (open_some s (ks ++ ls) (λ y. z (omega (arith, length-append ks ls))))

-- kept moves begin what more of them draw
open_begins : (s : Vector2) (ks ls : List Move) → Beginning (piece_from s 0 ks) (drawn_open s (ks ++ ls))
unfolding ◌then◌
open_begins s [] ls = unfold corners flags_of marks origins_of in nothing_begins _
open_begins s (k ∷ ks) ls =
    let ms = k ∷ ks in
    let m = pieces-meet s (last_point s ms) (length ms) ms ls refl refl in
    rw (open_some s (ms ++ ls) (λ h. omega arith)) (record {
      vertices = corners (last_point s ms) ls ++ vertex_at (last_point s (ms ++ ls)) B.zero ∷ [];
      flags = flags_of ls;
      indexes = marks (length ms) ls;
      origins = origins_of ls;
      vertices-begin = sym (append_assoc (corners s ms) (corners (last_point s ms) ls) _) ∙ rw (ap (λ (d : Drawing). d.vertices) m);
      flags-begin = ap (λ (d : Drawing). d.flags) m;
      indexes-begin = ap (λ (d : Drawing). d.indexes) m;
      origins-begin = ap (λ (d : Drawing). d.origins) m;
    })

module _ {σ : Settings} {a b : PlineVertex} {ws : List PlineVertex} {p : Drawing} {w : Course} (k : Walking σ a b ws p w) where
  abbrev s : Vector2
  s = start_at σ a b

  -- what is drawn of all vertices, and of more
  walk_draws : (us : List PlineVertex) → walk_drawing false σ a b (ws ++ us)
      ≡ drawn_open s (kept σ.eps s k.moves ++ kept σ.eps w.point (walk open_last σ (w.taken - 2) w.before w.last w.start_param us))
  unfolding walk_drawing walk_start walk_moves when◌give◌else◌
  walk_draws us = ap (λ (ms : List Move). drawn_open s (kept σ.eps s ms)) (k.on open_last us) ∙ ap (drawn_open s) (kept_on k _)

  walked-last : p then last_piece σ w ≡ walk_drawing false σ a b ws
  unfolding last_piece walk
  walked-last =
      ap (λ (d : Drawing). d then last_piece σ w) k.piece ∙ end-drawn s w.point w.number _ _ k.point k.number ∙ sym (ap (walk_drawing false σ a b) (sym (append-nil ws)) ∙ walk_draws [])

  walked_whole : eq σ.offset B.zero ≡ false → p then end_piece σ w ≡ drawn_whole σ (a ∷ b ∷ ws)
  walked_whole z = rw (end-walked σ w z (omega (arith, k.taken)), whole-walked σ a b ws z, k.lone) (by (eqb w.taken 2 and is_collapsed (segment_in σ w)) refl)
    where
      by : (t : Bool) → (eqb w.taken 2 and is_collapsed (segment_in σ w)) ≡ t → p then (when t give nothing else last_piece σ w) ≡ when t give nothing else walk_drawing false σ a b ws
      by true h =
          let e = eqb-true w.taken 2 ((both_pass (eqb w.taken 2) (is_collapsed (segment_in σ w))).0 h).0 in
          unfold when◌give◌else◌ ◌then◌ in rw (no-moves ws k (omega (arith, k.taken)))
      by false h = unfold when◌give◌else◌ in walked-last

  -- a walk begins that of more vertices
  walked_begins : (us : List PlineVertex) → eq σ.offset B.zero ≡ false → Beginning p (drawn_whole σ (a ∷ b ∷ (ws ++ us)))
  walked_begins us z = rw (whole-walked σ a b (ws ++ us) z) (by (lone_collapsed false σ (a ∷ b ∷ (ws ++ us))) refl)
    where
      few : (ts : List PlineVertex) → lone_collapsed false σ (a ∷ b ∷ ts) ≡ true → length ts ≡ 0
      few [] h = refl
      few (c ∷ ts) h = absurd (true≢false (sym h ∙ unfold lone_collapsed in refl))

      by : (t : Bool) → lone_collapsed false σ (a ∷ b ∷ (ws ++ us)) ≡ t → Beginning p (when t give nothing else walk_drawing false σ a b (ws ++ us))
      by true h = rw (no-moves ws k (omega (arith, few (ws ++ us) h, length-append ws us))) (nothing_begins _)
      by false h = unfold when◌give◌else◌ in rw (k.piece, walk_draws us) (open_begins s _ _)

-- ---- all of it

module _ {σ : Settings} where
  pub whole : {vs : List PlineVertex} {p : Drawing} {w : Course} → Reached σ vs p w → p then end_piece σ w ≡ drawn_whole σ vs
  unfolding ◌then◌ held
  whole none = rw (end-few σ no_course (omega arith), whole-few σ [] (omega arith))
  whole (copying z k) = copied-whole k σ z
  whole (one {a} z) = rw (end-few σ (held no_course a) (omega arith), whole-few σ (a ∷ []) (omega arith))
  whole (walking z k) = walked_whole k z

  pub begins : {vs : List PlineVertex} {p : Drawing} {w : Course} (us : List PlineVertex) → Reached σ vs p w → Beginning p (drawn_whole σ (vs ++ us))
  begins us none = nothing_begins _
  begins us (copying z k) = copied_begins k σ us z
  begins us (one z) = nothing_begins _
  begins us (walking z k) = walked_begins k us z

  -- how many are taken, and which is the last
  pub all-taken : {vs : List PlineVertex} {p : Drawing} {w : Course} → Reached σ vs p w → w.taken ≡ length vs
  unfolding held
  all-taken none = refl
  all-taken (copying z k) = k.taken ∙ sym (copy-length k)
  all-taken (one z) = refl
  all-taken (walking z k) = omega (arith, k.taken)

  pub last-held : {vs : List PlineVertex} {p : Drawing} {w : Course} → Reached σ vs p w → 0 < w.taken → (us : List PlineVertex) × (us ++ w.last ∷ [] ≡ vs)
  unfolding held
  last-held none h = absurd (omega arith)
  last-held {p = p} (copying z k) h = (p.vertices, k.vertices)
  last-held (one z) h = ([], refl)
  last-held {w = w} (walking z k) h = (k.fore ++ w.before ∷ [], append_snoc k.fore w.before (w.last ∷ []) ∙ k.ends)

  pub two-held : {vs : List PlineVertex} {p : Drawing} {w : Course} → Reached σ vs p w → eq σ.offset B.zero ≡ false → 2 ≤ w.taken
      → (us : List PlineVertex) × (us ++ w.before ∷ w.last ∷ [] ≡ vs)
  unfolding held
  two-held none y h = absurd (omega arith)
  two-held (copying z k) y h = absurd (true≢false (sym z ∙ y))
  two-held (one z) y h = absurd (omega arith)
  two-held (walking z k) y h = (k.fore, k.ends)
