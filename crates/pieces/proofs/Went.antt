-- Vertices taken one after the other: the refusal of a vertex by the tests of the code (`refused-early`, `refused-endless`, `not-refused`), what becomes of it (`went_old`, `went-refused`,
-- `went-taken`), and what holds all along the loop (`Going`). Assumes nothing.
use mathlib.Core.Path.{◌≡◌, refl, sym, ap, subst, ◌∙◌}
use mathlib.Core.List.{List, [], ◌∷◌}
use mathlib.Core.Bool.{Bool, true, false, not, true≢false, false≢true}
use Prim.Native.Nat.{ℕ, suc, ◌+◌, ◌-◌, ◌*◌, ◌≤◌, ◌<◌}
use native.Mathlib.Omega.{arith}
use borrow.Author.Tests.{eqb-true, eq-eqb, ne_eqb, leb-false}
use lib.Dec.{eqb, ltb, leb}
use lib.ListN.{length, drop}
use lib.Seq.{drop-cons, drop-length}
use lib.Ieee.{Float, eq, nan}
use Rattle.floats.specs.Binary64 as B
use Rattle.floats.specs.Choice.{when◌give◌else◌, ◌and◌}
use Rattle.floats.proofs.Choice.{yes, no}
use Rattle.segments.specs.declared.Settings.{Settings}
use Rattle.segments.specs.declared.PlineVertex.{PlineVertex}
use Rattle.source.specs.InnerSteps.{vertex_of}
use Rattle.refusals.specs.declared.Refusal.{Refusal}
use Rattle.refusals.specs.Table.{number_of}
use Rattle.refusals.specs.Limits.{good_vertex, repeats}
use Rattle.refusals.proofs.Table.{some_number}
use Rattle.moves.specs.declared.Stroke.{Stroke}
use Rattle.moves.specs.Drawing.{Drawing, nothing, all_finite, move_end}
use Rattle.moves.proofs.Kept.{length-kept}
use Rattle.vectors.specs.Plane.{near}
use Rattle.walk.specs.Walk.{moves_a_segment}
use Rattle.walk.proofs.Lengths.{moves-few, two-moves, joined-few}
use Rattle.sheet.specs.InnerSteps.{Laid, stores, Rooms}
use Rattle.sheet.proofs.Storing.{strokes-few, stores-room, room_fewer}
use Rattle.sheet.proofs.Products.{product_one}
use Rattle.course.specs.declared.Course.{Course}
use Rattle.course.specs.Course.{held, entered, turn_moves, turned, copies, step_on, refusal_of}
use Rattle.course.specs.InnerSteps.{vertices_by, pen_in, copy_stroke, copy_strokes, turn_strokes, step_strokes, early}
use Rattle.course.proofs.Strokes.{step-piece}
use Rattle.pieces.specs.InnerSteps.{Went, went_one, went_all, Ready}

-- ---- the refusal of a vertex

few-taken : (a : Bool) (n : ℕ) → when a give 2 else n ≡ 0 → a ≡ false
unfolding when◌give◌else◌
few-taken true n k = absurd (omega arith)
few-taken false n k = refl

pub soon_taken : (offset : Float) (w : Course) (c : PlineVertex) → early offset w c ≡ 0 → w.taken < 4096
unfolding early
soon_taken offset w c e = leb-false 4096 w.taken (few-taken _ _ e)

module _ (σ : Settings) (w : Course) (c : PlineVertex) where
  abbrev soon : ℕ
  soon = early σ.offset w c

  abbrev finite : Bool
  finite = all_finite (step_on σ w c).piece.vertices

  -- what is told after the strokes
  abbrev late : Bool → Bool → ℕ
  late z f = when z give 0 else when f give 0 else 6

  told : refusal_of σ w c ≡ when eqb soon 0 give late (eq σ.offset B.zero) finite else soon
  unfolding refusal_of early
  told = by (leb 4096 w.taken) (not (good_vertex c)) (eq σ.offset B.zero) (ltb 0 w.taken and repeats w.last c) finite
    where
      by : (a b z r f : Bool) → (when a give 2 else when b give 3 else when z give 0 else when r give 5 else when f give 0 else 6)
          ≡ when eqb (when a give 2 else when b give 3 else when z give 0 else when r give 5 else 0) 0 give late z f else (when a give 2 else when b give 3 else when z give 0 else when r give 5 else 0)
      by true b z r f = unfold when◌give◌else◌ in refl
      by false true z r f = unfold when◌give◌else◌ in refl
      by false false true r f = unfold when◌give◌else◌ in refl
      by false false false true f = unfold when◌give◌else◌ in refl
      by false false false false f = unfold when◌give◌else◌ in refl

  pub refused-early : {n : ℕ} → n ≡ soon → (n ≡ 0 → ⊥) → n ≡ refusal_of σ w c
  refused-early e h = e ∙ no (eqb soon 0) _ _ (ne_eqb soon 0 (λ z. h (e ∙ z))) refl ∙ sym told

  module _ {ss : List Stroke} (s : ss ≡ step_strokes σ w c) (e : soon ≡ 0) where
    is_late : refusal_of σ w c ≡ late (eq σ.offset B.zero) (all_finite (vertices_by ss))
    is_late = told ∙ sym (yes (eqb soon 0) _ _ (eq-eqb soon 0 e) (rw s (ap (λ (d : Drawing). late (eq σ.offset B.zero) (all_finite d.vertices)) (step-piece σ w c))))

    pub refused-endless : {t : Bool} → t ≡ when eq σ.offset B.zero give false else not (all_finite (vertices_by ss)) → t ≡ true → 6 ≡ refusal_of σ w c
    refused-endless d h = sym (is_late ∙ by (eq σ.offset B.zero) (all_finite (vertices_by ss)) (sym d ∙ h))
      where
        by : (z f : Bool) → (when z give false else not f) ≡ true → late z f ≡ 6
        by true f k = absurd (false≢true (unfold when◌give◌else◌ in k))
        by false true k = absurd (false≢true (unfold when◌give◌else◌ in k))
        by false false k = unfold when◌give◌else◌ in refl

    pub not-refused : {t : Bool} → t ≡ when eq σ.offset B.zero give false else not (all_finite (vertices_by ss)) → t ≡ false → refusal_of σ w c ≡ 0
    not-refused d h = is_late ∙ by (eq σ.offset B.zero) (all_finite (vertices_by ss)) (sym d ∙ h)
      where
        by : (z f : Bool) → (when z give false else not f) ≡ false → late z f ≡ 0
        by true f k = unfold when◌give◌else◌ in refl
        by false true k = unfold when◌give◌else◌ in refl
        by false false k = absurd (true≢false (unfold when◌give◌else◌ in k))

  -- a vertex that is not one too many
  pub open_taken : refusal_of σ w c ≡ 0 → w.taken < 4096
  unfolding refusal_of
  open_taken e = leb-false 4096 w.taken (few-taken _ _ e)

  -- ---- what becomes of it: at most so many strokes, one vertex more, and at most so many numbers

  turn-few : length (turn_moves σ w c) ≤ moves_a_segment σ.corners
  unfolding turn_moves
  turn-few = omega (arith, joined-few σ (w.taken - 2) w.before w.last c)

  pub step-few : length (step_strokes σ w c) ≤ moves_a_segment σ.corners
  unfolding step_strokes copy_strokes turn_strokes
  step-few = by (eq σ.offset B.zero) (eqb w.taken 0) (ltb w.taken 2)
    where
      by : (z n l : Bool) → length (when z give (when n give [] else copy_stroke w ∷ []) else when l give [] else turn_strokes σ w c) ≤ moves_a_segment σ.corners
      by true true l = unfold when◌give◌else◌ in omega arith
      by true false l = unfold when◌give◌else◌ in omega (arith, two-moves σ.corners)
      by false n true = unfold when◌give◌else◌ in omega arith
      by false n false = unfold when◌give◌else◌ in omega (arith, turn-few, strokes-few 0 (pen_in w) (turn_moves σ w c) σ.eps)

  pub strokes-fit : {ss : List Stroke} → ss ≡ step_strokes σ w c → length ss ≤ moves_a_segment σ.corners * 1
  strokes-fit e = rw e (omega (arith, step-few))

  pub record Counts (w' : Course) : Type 0 where
    pub taken : w'.taken ≡ w.taken + 1
    pub number : w'.number ≤ w.number + moves_a_segment σ.corners

  pub step_counts : Counts (step_on σ w c).course
  unfolding step_on
  step_counts = by (eq σ.offset B.zero) (eqb w.taken 0) (eqb w.taken 1)
    where
      by : (z n o : Bool) → Counts (when z give record { piece = copies w; course = held w c } else when n give record { piece = nothing; course = held w c } else when o give record { piece = nothing; course = entered σ w c } else turned σ w c).course
      by true n o = unfold when◌give◌else◌ held in record { taken = refl; number = omega arith }
      by false true o = unfold when◌give◌else◌ held in record { taken = refl; number = omega arith }
      by false false true = unfold when◌give◌else◌ entered in record { taken = refl; number = omega arith }
      by false false false = unfold when◌give◌else◌ turned in record { taken = refl; number = omega (arith, turn-few, length-kept move_end (λ a b. near a b σ.eps) w.point (turn_moves σ w c)) }

-- ---- one vertex

suc_times : (m n : ℕ) → m * suc n ≡ m * n + m
suc_times m n = omega arith

module _ (σ : Settings) (c : PlineVertex) (g : Went) where
  pub went_old : (g.refusal ≡ 0 → ⊥) → g ≡ went_one σ c g
  unfolding went_one
  went_old h = yes _ _ _ (ap not (ne_eqb g.refusal 0 h)) refl

  module _ (none : g.refusal ≡ 0) where
    pub went-refused : {n : ℕ} → n ≡ refusal_of σ g.course c → (n ≡ 0 → ⊥) → record { laid = g.laid; course = g.course; refusal = n } ≡ went_one σ c g
    unfolding went_one
    went-refused {n} e h = no _ _ _ (ap not (eq-eqb g.refusal 0 none)) (no _ _ _ (ne_eqb _ 0 (λ z. h (e ∙ z))) (rw e))

    pub went-taken : {l : Laid} {w : Course} {ss : List Stroke} → refusal_of σ g.course c ≡ 0 → ss ≡ step_strokes σ g.course c → w ≡ (step_on σ g.course c).course → l ≡ stores ss g.laid
        → record { laid = l; course = w; refusal = 0 } ≡ went_one σ c g
    unfolding went_one
    went-taken z s e k = no _ _ _ (ap not (eq-eqb g.refusal 0 none)) (yes _ _ _ (eq-eqb _ 0 z) (rw (k, s, e)))

  -- one vertex fewer to come
  module _ {n : ℕ} {pointed : Bool} (r : Ready (suc n) g σ pointed) where
    abbrev m : ℕ
    m = moves_a_segment σ.corners

    fewer : Rooms (m * n) g.laid
    fewer = room_fewer (omega (arith, suc_times m n)) r.rooms

    after : (t z : Bool) → (z ≡ true → refusal_of σ g.course c ≡ 0)
        → Ready n (when t give g else when z give record { laid = stores (step_strokes σ g.course c) g.laid; course = (step_on σ g.course c).course; refusal = 0 } else
        record { laid = g.laid; course = g.course; refusal = refusal_of σ g.course c }) σ pointed
    unfolding when◌give◌else◌
    after true z h = record { taken = r.taken; number = r.number; told = r.told; rooms = fewer }
    after false true h =
        let k = step_counts σ g.course c in
        let f = step-few σ g.course c in
        let l = open_taken σ g.course c (h refl) in
        record {
          taken = omega (arith, k.taken);
          number = omega (arith, k.taken, k.number, r.number, moves-few σ.corners);
          told = r.told;
          rooms = stores-room (m * n) (step_strokes σ g.course c) g.laid (room_fewer (omega (arith, suc_times m n, f)) r.rooms);
        }
    after false false h = record { taken = r.taken; number = r.number; told = r.told; rooms = fewer }

    pub ready_on : Ready n (went_one σ c g) σ pointed
    unfolding went_one
    ready_on = after (not (eqb g.refusal 0)) (eqb (refusal_of σ g.course c) 0) (λ e. eqb-true _ 0 e)

-- ---- the loop: of n vertices i are taken

pub record Going (σ : Settings) (pointed : Bool) (vs : List PlineVertex) (n : ℕ) (end : Went) (i : ℕ) (g : Went) : Type 0 where
  pub within : i ≤ n
  pub left : went_all σ (drop i vs) g ≡ end
  pub ready : Ready (n - i) g σ pointed

module _ {σ : Settings} {pointed : Bool} {vs : List PlineVertex} {n : ℕ} where
  pub going_none : {g : Went} → Ready n g σ pointed → Going σ pointed vs n (went_all σ vs g) 0 g
  going_none r = let z : n - 0 ≡ n = omega arith in record { within = omega arith; left = refl; ready = rw z r }

  module _ {end : Went} {i : ℕ} {g : Went} (on : Going σ pointed vs n end i g) where
    pub going_one : (c : PlineVertex) {g' : Went} → n ≡ length vs → i < n → c ≡ vertex_of vs i → g' ≡ went_one σ c g → Going σ pointed vs n end (i + 1) g'
    unfolding vertex_of
    going_one c {g'} long lt hc e =
        let z : n - i ≡ suc (n - (i + 1)) = omega arith in
        let s : suc i ≡ i + 1 = omega arith in
        let d = drop-cons vs i (record { x = nan; y = nan; bulge = nan }) (omega arith) in
        let more : went_all σ (vertex_of vs i ∷ drop (suc i) vs) g ≡ went_all σ (drop (suc i) vs) (went_one σ (vertex_of vs i) g) = unfold went_all in refl in
        record {
          within = omega arith;
          left = rw (e, hc, ← s) (sym more ∙ ap (λ (us : List PlineVertex). went_all σ us g) (sym d) ∙ on.left);
          ready = subst (λ (x : Went). Ready (n - (i + 1)) x σ pointed) (sym e) (ready_on σ c g (subst (λ k. Ready k g σ pointed) z on.ready));
        }

    pub going_done : n ≡ length vs → n ≤ i → g ≡ end
    unfolding went_all
    going_done long h =
        let z : i ≡ length vs = omega (arith, on.within) in
        ap (λ (us : List PlineVertex). went_all σ us g) (sym (ap (λ k. drop k vs) z ∙ drop-length vs)) ∙ on.left

-- what one vertex needs of n of them
pub ready-one : {n : ℕ} {g : Went} {σ : Settings} {pointed : Bool} → Ready n g σ pointed → 1 ≤ n → Ready 1 g σ pointed
ready-one {n} {g} {σ} r h = record { taken = r.taken; number = r.number; told = r.told; rooms = room_fewer (omega (arith, product_one (moves_a_segment σ.corners) n h)) r.rooms }
