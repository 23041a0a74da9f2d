-- The vertices of a call as the code takes them, beside the rules: the same course and refusal, and the strokes that are stored are the piece handed out (`along`). So a call leaves
-- what the rules say (`drawn-called`). Assumes nothing.
use mathlib.Core.Path.{◌≡◌, refl, sym, ap, subst, ◌∙◌}
use mathlib.Core.List.{List, [], ◌∷◌, ◌++◌}
use mathlib.Core.Bool.{Bool, true, false, not}
use Prim.Native.Nat.{ℕ, ◌+◌, ◌*◌, ◌≤◌, ◌<◌}
use native.Mathlib.Omega.{arith}
use borrow.Author.Tests.{eqb-true}
use lib.Dec.{eqb}
use lib.ListN.{length, length-append, length-map}
use lib.Ieee.{Float}
use Rattle.floats.specs.Choice.{when◌give◌else◌}
use Rattle.segments.specs.declared.Settings.{Settings}
use Rattle.segments.specs.declared.PlineVertex.{PlineVertex}
use Rattle.source.specs.Source.{rows}
use Rattle.moves.specs.declared.Stroke.{Stroke}
use Rattle.moves.specs.Origins.{origins_in}
use Rattle.moves.specs.Reason.{is_invalid}
use Rattle.moves.specs.Drawing.{Drawing, bit}
use Rattle.walk.specs.Walk.{moves_a_segment}
use Rattle.walk.proofs.Lengths.{moves-few}
use Rattle.sheet.specs.Buffers.{Buffers, buffers}
use Rattle.sheet.specs.InnerSteps.{Loaned, SameLoans, held, lent, no_places, Laid, laid, stores, Rooms, written}
use Rattle.sheet.specs.declared.lent.Marks.{Marks}
use Rattle.sheet.proofs.Stored.{stores-append}
use Rattle.sheet.proofs.Storing.{room_fewer}
use Rattle.course.specs.declared.Course.{Course}
use Rattle.course.specs.Course.{◌then◌, Drawn, none_drawn, step_on, refusal_of, draw_one, draw_all}
use Rattle.course.specs.InnerSteps.{numbers_by, piece_by, step_strokes}
use Rattle.course.proofs.Strokes.{piece-append, step-piece}
use Rattle.pieces.specs.declared.OpenJob.{OpenJob}
use Rattle.pieces.specs.declared.Taken.{Taken}
use Rattle.pieces.specs.declared.DrawAnswer.{DrawAnswer}
use Rattle.pieces.specs.Calls.{drawing, refused, answering, called, handed_out, staged, drawn_call}
use Rattle.pieces.specs.InnerSteps.{Went, went, went_one, went_all, none_taken, counted, taken_answer, taken_job}
use Rattle.pieces.proofs.Stored.{Rows, stores-rows, numbers-few, stores-written, written_out, written_same}
use Rattle.pieces.proofs.Went.{step-few, step_counts, open_taken}

-- ---- one vertex, and all: the strokes ss are stored from l on

module _ (σ : Settings) (l : Laid) where
  abbrev of_code : List Stroke → Course → ℕ → Went
  of_code ss w r = record { laid = stores ss l; course = w; refusal = r }

  abbrev of_rules : List Stroke → Course → ℕ → Drawn
  of_rules ss w r = record { piece = piece_by ss; course = w; refusal = r }

  pub record Next (g : Went) (d : Drawn) (n k : ℕ) : Type 0 where
    pub strokes : List Stroke
    pub course : Course
    pub refusal : ℕ
    pub code : g ≡ of_code strokes course refusal
    pub rules : d ≡ of_rules strokes course refusal
    pub few : length strokes ≤ n + moves_a_segment σ.corners
    -- of k vertices taken before: at most three strokes for each one more, and not too many
    pub grows : length strokes + 3 * k ≤ n + 3 * course.taken
    pub most : k ≤ 4096 → course.taken ≤ 4096

  next : (ss : List Stroke) (w : Course) (r : ℕ) (c : PlineVertex) → Next (went_one σ c (of_code ss w r)) (draw_one σ c (of_rules ss w r)) (length ss) w.taken
  unfolding went_one draw_one
  next ss w r c = by (not (eqb r 0)) (eqb (refusal_of σ w c) 0) (λ e. eqb-true (refusal_of σ w c) 0 e)
    where
      more : List Stroke
      more = step_strokes σ w c

      by : (t z : Bool) → (z ≡ true → refusal_of σ w c ≡ 0) → Next
          (when t give of_code ss w r else when z give record { laid = stores more (stores ss l); course = (step_on σ w c).course; refusal = 0 } else of_code ss w (refusal_of σ w c))
          (when t give of_rules ss w r else when z give record { piece = piece_by ss then (step_on σ w c).piece; course = (step_on σ w c).course; refusal = 0 } else of_rules ss w (refusal_of σ w c)) (length ss) w.taken
      by true z h = unfold when◌give◌else◌ in record { strokes = ss; course = w; refusal = r; code = refl; rules = refl; few = omega arith; grows = omega arith; most = λ k. k }
      by false true h = unfold when◌give◌else◌ in record {
        strokes = ss ++ more;
        course = (step_on σ w c).course;
        refusal = 0;
        code = ap (λ (k : Laid). record { laid = k; course = (step_on σ w c).course; refusal = 0 }) (sym (stores-append ss more l));
        rules = ap (λ (d : Drawing). record { piece = d; course = (step_on σ w c).course; refusal = 0 }) (sym (piece-append ss more ∙ ap (λ (d : Drawing). piece_by ss then d) (step-piece σ w c)));
        few = omega (arith, length-append ss more, step-few σ w c);
        grows = omega (arith, length-append ss more, step-few σ w c, moves-few σ.corners, (step_counts σ w c).taken);
        most = λ k. omega (arith, (step_counts σ w c).taken, open_taken σ w c (h refl));
      }
      by false false h = unfold when◌give◌else◌ in record { strokes = ss; course = w; refusal = refusal_of σ w c; code = refl; rules = refl; few = omega arith; grows = omega arith; most = λ k. k }

  pub record Along (g : Went) (d : Drawn) (n m k : ℕ) : Type 0 where
    pub strokes : List Stroke
    pub code : g ≡ of_code strokes d.course d.refusal
    pub rules : d.piece ≡ piece_by strokes
    pub few : length strokes ≤ n
    pub grows : length strokes + 3 * k ≤ m + 3 * d.course.taken
    pub most : k ≤ 4096 → d.course.taken ≤ 4096

  pub along : (vs : List PlineVertex) (ss : List Stroke) (w : Course) (r : ℕ)
      → Along (went_all σ vs (of_code ss w r)) (draw_all σ vs (of_rules ss w r)) (length ss + moves_a_segment σ.corners * length vs) (length ss) w.taken
  unfolding went_all draw_all
  along [] ss w r = record { strokes = ss; code = refl; rules = refl; few = omega arith; grows = omega arith; most = λ k. k }
  along (c ∷ vs) ss w r =
      let x = next ss w r c in
      let m = moves_a_segment σ.corners in
      let n = length x.strokes in
      let a = along vs x.strokes x.course x.refusal in
      let b = subst (λ (g : Went). Along (went_all σ vs g) (draw_all σ vs (of_rules x.strokes x.course x.refusal)) (n + m * length vs) n x.course.taken) (sym x.code) a in
      let e = subst (λ (d : Drawn). Along (went_all σ vs (went_one σ c (of_code ss w r))) (draw_all σ vs d) (n + m * length vs) n x.course.taken) (sym x.rules) b in
      record {
        strokes = e.strokes;
        code = e.code;
        rules = e.rules;
        few = omega (arith, e.few, x.few);
        grows = omega (arith, e.grows, x.grows);
        most = λ k. e.most (x.most k);
      }

-- ---- a call

module _ (σ : Settings) (j : OpenJob) (w : Course) (vs : List PlineVertex) (t : Taken) (v v' : Loaned) (m m' : Marks) where
  abbrev d : Drawn
  d = draw_all σ vs (none_drawn w)

  abbrev room : ℕ
  room = moves_a_segment σ.corners * length vs

  module _ {σ' : Settings} {t₀ : Taken} (rooms : Rooms room (laid no_places (held v m))) (asked : σ' ≡ σ) (first : t₀ ≡ none_taken w)
      (e : went t (held v' m') ≡ went_all σ' vs (went t₀ (held v m))) where
    abbrev l : Laid
    l = laid no_places (held v m)

    pub all : Along σ l (went_all σ vs (went (none_taken w) (held v m))) d room 0 w.taken
    unfolding stores numbers_by
    all = let a = along σ l vs [] w 0 in record { strokes = a.strokes; code = a.code; rules = a.rules; few = omega (arith, a.few); grows = a.grows; most = a.most }

    abbrev ss : List Stroke
    ss = all.strokes

    is : went t (held v' m') ≡ record { laid = stores ss l; course = d.course; refusal = d.refusal }
    is = e ∙ (λ x. went_all (asked x) vs (went (first x) (held v m))) ∙ all.code

    fits : Rooms (length ss) l
    fits = room_fewer all.few rooms

    rows_are : Rows ss l (stores ss l)
    rows_are = stores-rows ss l

    pub strokes_are : t.places.strokes ≡ length ss
    strokes_are = let e = ap (λ (g : Went). g.laid.places.strokes) is in omega (arith, e, rows_are.strokes)

    pub marks_are : t.places.marks ≡ length (numbers_by ss)
    marks_are = let e = ap (λ (g : Went). g.laid.places.marks) is in omega (arith, e, rows_are.marks)

    pub few-counts : w.taken ≤ 4096 → (t.places.strokes < 0x1_0000_0000) × (t.places.marks < 0x1_0000_0000)
    few-counts h =
        let n = strokes_are in
        let q = marks_are in
        let k = all.most h in
        (omega (arith, all.grows), omega (arith, all.grows, numbers-few ss))

    whole : held v' m' ≡ written d.piece (held v m)
    whole = ap (λ (g : Went). g.laid.buffers) is ∙ stores-written ss no_places (held v m) refl fits ∙ ap (λ (x : Drawing). written x (held v m)) (sym all.rules)

    pub drawn-same : SameLoans v m v' m'
    drawn-same = written_same v v' m m' d.piece whole

    out : lent v' m' ≡ handed_out d.piece (lent v m)
    out =
        written_out v v' m m' d.piece (let k = length-map ss (λ (s : Stroke). s.vertex) in rw all.rules (omega (arith, fits.vertices))) whole

    vertices_are : t.places.strokes ≡ length d.piece.vertices
    vertices_are = strokes_are ∙ sym (ap (λ (x : Drawing). length x.vertices) all.rules ∙ length-map ss (λ (s : Stroke). s.vertex))

    segments_are : t.places.strokes ≡ length d.piece.flags
    segments_are = strokes_are ∙ sym (ap (λ (x : Drawing). length x.flags) all.rules ∙ length-map ss (λ (s : Stroke). bit (is_invalid s.reason)))

    indexes_are : t.places.marks ≡ length d.piece.indexes
    indexes_are = marks_are ∙ sym (ap (λ (x : Drawing). length x.indexes) all.rules)

    counts : {n n' k k' : ℕ} → n ≡ n' → k ≡ k' → counted n k t.places ≡ answering n' k' d.piece
    counts p q = λ x. record { number = p x; place = q x; vertices = vertices_are x; indexes = indexes_are x; segments = segments_are x }

    pub drawn-called : {a : DrawAnswer} {j' : OpenJob} → a ≡ taken_answer t → j' ≡ taken_job t j
        → called a j' (lent v' m') ≡ drawn_call j d (lent v m)
    unfolding taken_answer taken_job drawn_call
    drawn-called {a} {j'} p q = (λ x. called ((p ∙ answer) x) ((q ∙ job) x) (out x)) ∙ by (eqb d.refusal 0)
      where
        r : t.refusal ≡ d.refusal
        r = ap (λ (g : Went). g.refusal) is

        c : t.course ≡ d.course
        c = ap (λ (g : Went). g.course) is

        told : counted t.refusal t.course.taken t.places ≡ answering d.refusal d.course.taken d.piece
        told = counts r (ap (λ (v : Course). v.taken) c)

        done : counted 0 0 t.places ≡ answering 0 0 d.piece
        done = counts refl refl

        answer : taken_answer t ≡ (when eqb d.refusal 0 give answering 0 0 d.piece else answering d.refusal d.course.taken d.piece)
        answer = λ x. when eqb (r x) 0 give done x else told x

        job : taken_job t j ≡ (when eqb d.refusal 0 give staged drawing 0 0 d.course j else staged refused d.refusal d.course.taken d.course j)
        job = λ x. when eqb (r x) 0 give staged drawing 0 0 (c x) j else staged refused (r x) (c x).taken (c x) j

        after : Buffers
        after = handed_out d.piece (lent v m)

        by : (z : Bool) → called (when z give answering 0 0 d.piece else answering d.refusal d.course.taken d.piece)
            (when z give staged drawing 0 0 d.course j else staged refused d.refusal d.course.taken d.course j) after
            ≡ when z give called (answering 0 0 d.piece) (staged drawing 0 0 d.course j) after else
            called (answering d.refusal d.course.taken d.piece) (staged refused d.refusal d.course.taken d.course j) after
        by true = unfold when◌give◌else◌ in refl
        by false = unfold when◌give◌else◌ in refl
