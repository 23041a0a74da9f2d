-- What a vertex makes certain, and one vertex drawn, by cases (`step_by`, `one-by`); how far a course counts that was reached (`all-counts`); and how much is handed out at most, of
-- vertices (`all_fit`) and at the end (`end_fits`), which is always open (`all_open`, `end_open`). Assumes nothing.
use mathlib.Core.Path.{◌≡◌, refl, sym, ap}
use mathlib.Core.List.{List, [], ◌∷◌, ◌++◌}
use mathlib.Core.Bool.{Bool, true, false, not}
use Prim.Native.Nat.{ℕ, suc, ◌+◌, ◌*◌, ◌-◌, ◌≤◌, ◌<◌}
use native.Mathlib.Nat.{zero-add, mul-le-mul_left}
use native.Mathlib.Omega.{arith}
use borrow.Author.Tests.{eqb-true, eqb-false, leb-false, eq-eqb, ne_eqb}
use lib.Dec.{eqb, leb, ltb}
use lib.ListN.{length, length-append}
use lib.Ieee.{eq}
use Rattle.floats.specs.Binary64.{zero}
use Rattle.floats.specs.Choice.{when◌give◌else◌, ◌and◌}
use Rattle.floats.proofs.Choice.{yes, no}
use Rattle.vectors.specs.Plane.{near}
use Rattle.vectors.specs.declared.Vector2.{Vector2}
use Rattle.segments.specs.declared.Settings.{Settings}
use Rattle.segments.specs.declared.PlineVertex.{PlineVertex}
use Rattle.segments.specs.Vertex.{vertex_at}
use Rattle.segments.specs.Segment.{is_collapsed}
use Rattle.refusals.proofs.First.{by_test}
use Rattle.moves.specs.declared.Move.{Move}
use Rattle.moves.specs.declared.Origin.{Origin}
use Rattle.moves.specs.Drawing.{Drawing, nothing, move_end, kept, last_point, corners}
use Rattle.moves.specs.InnerSteps.{Fits}
use Rattle.moves.proofs.Kept.{length-kept}
use Rattle.moves.proofs.Lists.{length-corners, length-flags_of, length-marks, length-origins_of}
use Rattle.moves.proofs.Shapes.{nothing-fits}
use Rattle.walk.specs.Walk.{moves_a_segment, open_last}
use Rattle.walk.proofs.Lengths.{two-moves, joined-few}
use Rattle.course.specs.declared.Course.{Course}
use Rattle.course.specs.Course.{piece_from, ◌then◌, segment_in, Step, held, entered, turn_moves, turned, copy_of, copies, step_on, refusal_of, Drawn, draw_one, draw_all, none_drawn, last_piece, end_piece}

-- ---- what a vertex makes certain, by cases

pub step_by : (P : Step → Type 0) (σ : Settings) (w : Course) (c : PlineVertex)
    → (eq σ.offset zero ≡ true → P (record { piece = copies w; course = held w c }))
    → (eq σ.offset zero ≡ false → w.taken ≡ 0 → P (record { piece = nothing; course = held w c }))
    → (eq σ.offset zero ≡ false → w.taken ≡ 1 → P (record { piece = nothing; course = entered σ w c }))
    → (eq σ.offset zero ≡ false → 2 ≤ w.taken → P (turned σ w c)) → P (step_on σ w c)
unfolding step_on when◌give◌else◌
step_by P σ w c copy first second more = by (eq σ.offset zero) (eqb w.taken 0) (eqb w.taken 1) refl refl refl
  where
    by : (z n o : Bool) → eq σ.offset zero ≡ z → eqb w.taken 0 ≡ n → eqb w.taken 1 ≡ o
        → P (when z give record { piece = copies w; course = held w c } else when n give record { piece = nothing; course = held w c } else when o give record { piece = nothing; course = entered σ w c } else turned σ w c)
    by true n o e f g = copy e
    by false true o e f g = first e (eqb-true _ _ f)
    by false false true e f g = second e (eqb-true _ _ g)
    by false false false e f g = more e (omega (arith, eqb-false w.taken 0 f, eqb-false w.taken 1 g))

-- ---- one vertex drawn, by cases

module _ (σ : Settings) (c : PlineVertex) (d : Drawn) where
  pub one-shut : (d.refusal ≡ 0 → ⊥) → draw_one σ c d ≡ d
  unfolding draw_one
  one-shut h = sym (yes _ _ _ (ap not (ne_eqb _ _ h)) refl)

  pub one_on : d.refusal ≡ 0 → refusal_of σ d.course c ≡ 0
      → draw_one σ c d ≡ record { piece = d.piece then (step_on σ d.course c).piece; course = (step_on σ d.course c).course; refusal = 0 }
  unfolding draw_one
  one_on h e = sym (no _ _ _ (ap not (eq-eqb _ _ h)) (yes _ _ _ (eq-eqb _ _ e) refl))

  pub one-refused : d.refusal ≡ 0 → (refusal_of σ d.course c ≡ 0 → ⊥) → draw_one σ c d ≡ record { piece = d.piece; course = d.course; refusal = refusal_of σ d.course c }
  unfolding draw_one
  one-refused h e = sym (no _ _ _ (ap not (eq-eqb _ _ h)) (no _ _ _ (ne_eqb _ _ e) refl))

  pub one-by : (P : Drawn → Type 0) → ((d.refusal ≡ 0 → ⊥) → P d)
      → (d.refusal ≡ 0 → refusal_of σ d.course c ≡ 0 → P (record { piece = d.piece then (step_on σ d.course c).piece; course = (step_on σ d.course c).course; refusal = 0 }))
      → (d.refusal ≡ 0 → (refusal_of σ d.course c ≡ 0 → ⊥) → P (record { piece = d.piece; course = d.course; refusal = refusal_of σ d.course c })) → P (draw_one σ c d)
  one-by P shut on refused =
      by_test (eqb d.refusal 0)
      (λ (e : eqb d.refusal 0 ≡ true).
      let h = eqb-true _ _ e in
      let n = refusal_of σ d.course c in
      by_test (eqb n 0) (λ (f : eqb n 0 ≡ true). rw (one_on h (eqb-true _ _ f)) (on h (eqb-true _ _ f))) (λ (f : eqb n 0 ≡ false). rw (one-refused h (eqb-false _ _ f)) (refused h (eqb-false _ _ f))))
      (λ (e : eqb d.refusal 0 ≡ false). rw (one-shut (eqb-false _ _ e)) (shut (eqb-false _ _ e)))

-- ---- the counts of a course

pub record Counts (σ : Settings) (w : Course) : Type 0 where
  pub taken : w.taken ≤ 4096
  pub number : w.number ≤ moves_a_segment σ.corners * (w.taken - 2)

-- the moves of a turn, and those that are kept
turn-few : (σ : Settings) (w : Course) (c : PlineVertex) → length (kept σ.eps w.point (turn_moves σ w c)) ≤ moves_a_segment σ.corners
unfolding turn_moves
turn-few σ w c =
    let i = w.taken - 2 in
    omega (arith, length-kept move_end (λ x y. near x y σ.eps) w.point (turn_moves σ w c), joined-few σ i w.before w.last c)

-- a vertex that is taken has a place below 4096
taken-below : (σ : Settings) (w : Course) (c : PlineVertex) → refusal_of σ w c ≡ 0 → w.taken < 4096
unfolding refusal_of when◌give◌else◌
taken-below σ w c e = by (leb 4096 w.taken) _ refl e
  where
    by : (t : Bool) (n : ℕ) → leb 4096 w.taken ≡ t → (when t give 2 else n) ≡ 0 → w.taken < 4096
    by true n h z = absurd (omega arith)
    by false n h z = leb-false _ _ h

module _ (σ : Settings) (w : Course) (c : PlineVertex) (counts : Counts σ w) (below : w.taken < 4096) where
  abbrev m : ℕ
  m = moves_a_segment σ.corners

  same_number : w.number ≤ m * (w.taken + 1 - 2)
  same_number = omega (arith, counts.number, mul-le-mul_left {m = w.taken - 2} {n = w.taken + 1 - 2} m (omega arith))

  step_counts : Counts σ (step_on σ w c).course
  unfolding held entered turned
  step_counts =
      step_by (λ (s : Step). Counts σ s.course) σ w c (λ z. record { taken = omega arith; number = same_number }) (λ z n. record { taken = omega arith; number = same_number })
      (λ z n. record { taken = omega arith; number = same_number }) (λ z n. record { taken = omega arith; number = more n })
    where
      more : 2 ≤ w.taken → w.number + length (kept σ.eps w.point (turn_moves σ w c)) ≤ m * (w.taken + 1 - 2)
      more n = let e : w.taken + 1 - 2 ≡ suc (w.taken - 2) = omega arith in rw e (omega (arith, counts.number, turn-few σ w c))

one-counts : (σ : Settings) (c : PlineVertex) (d : Drawn) → Counts σ d.course → Counts σ (draw_one σ c d).course
one-counts σ c d k = one-by σ c d (λ (e : Drawn). Counts σ e.course) (λ h. k) (λ h e. step_counts σ d.course c k (taken-below σ d.course c e)) (λ h e. k)

pub all-counts : (σ : Settings) (vs : List PlineVertex) (d : Drawn) → Counts σ d.course → Counts σ (draw_all σ vs d).course
unfolding draw_all
all-counts σ [] d k = k
all-counts σ (c ∷ vs) d k = all-counts σ vs (draw_one σ c d) (one-counts σ c d k)

-- ---- what is handed out fits

then-fits : (m n : ℕ) (d e : Drawing) → Fits m d → Fits n e → Fits (m + n) (d then e)
unfolding ◌then◌
then-fits m n d e f g = record {
  vertices = omega (arith, length-append d.vertices e.vertices, f.vertices, g.vertices);
  flags = omega (arith, length-append d.flags e.flags, f.flags, g.flags);
  indexes = omega (arith, length-append d.indexes e.indexes, f.indexes, g.indexes);
  origins = omega (arith, length-append d.origins e.origins, length-append d.flags e.flags, f.origins, g.origins);
}

piece-fits : (room : ℕ) (p : Vector2) (n : ℕ) (ks : List Move) → length ks ≤ room → Fits room (piece_from p n ks)
piece-fits room p n ks l =
    let a = length-corners p ks in
    let b = length-flags_of ks in
    let i = length-marks n ks in
    let o = length-origins_of ks in
    record { vertices = omega arith; flags = omega arith; indexes = omega arith; origins = omega arith }

copies-fit : (room : ℕ) (w : Course) → 1 ≤ room → Fits room (copies w)
unfolding copies when◌give◌else◌
copies-fit room w h = by (eqb w.taken 0)
  where
    by : (t : Bool) → Fits room (when t give nothing else copy_of w)
    by true = nothing-fits room
    by false = record { vertices = omega arith; flags = omega arith; indexes = omega arith; origins = omega arith }

step_fits : (σ : Settings) (w : Course) (c : PlineVertex) → Fits (moves_a_segment σ.corners) (step_on σ w c).piece
unfolding turned
step_fits σ w c =
    step_by (λ (s : Step). Fits (moves_a_segment σ.corners) s.piece) σ w c (λ z. copies-fit _ w (omega (arith, two-moves σ.corners))) (λ z n. nothing-fits _) (λ z n. nothing-fits _)
    (λ z n. piece-fits _ w.point w.number _ (turn-few σ w c))

more-fits : (m n : ℕ) (d : Drawing) → m ≤ n → Fits m d → Fits n d
more-fits m n d h f = record { vertices = omega (arith, f.vertices); flags = omega (arith, f.flags); indexes = omega (arith, f.indexes); origins = f.origins }

one-fits : (σ : Settings) (c : PlineVertex) (d : Drawn) (n : ℕ) → Fits n d.piece → Fits (n + moves_a_segment σ.corners) (draw_one σ c d).piece
one-fits σ c d n f =
    let m = moves_a_segment σ.corners in
    let still = more-fits n (n + m) d.piece (omega arith) f in
    one-by σ c d (λ (e : Drawn). Fits (n + m) e.piece) (λ h. still) (λ h e. then-fits n m d.piece _ f (step_fits σ d.course c)) (λ h e. still)

all_more : (σ : Settings) (vs : List PlineVertex) (d : Drawn) (n : ℕ) → Fits n d.piece → Fits (n + moves_a_segment σ.corners * length vs) (draw_all σ vs d).piece
unfolding draw_all
all_more σ [] d n f = more-fits n _ d.piece (omega arith) f
all_more σ (c ∷ vs) d n f =
    let m = moves_a_segment σ.corners in
    let e : n + m + m * length vs ≡ n + m * suc (length vs) = omega arith in
    rw e at (all_more σ vs (draw_one σ c d) (n + m) (one-fits σ c d n f))

-- two or three segments a vertex
pub all_fit : (σ : Settings) (vs : List PlineVertex) (w : Course) → Fits (moves_a_segment σ.corners * length vs) (draw_all σ vs (none_drawn w)).piece
all_fit σ vs w = rw zero-add at (all_more σ vs (none_drawn w) 0 (nothing-fits 0))

-- and two vertices at the end
last_fits : (σ : Settings) (w : Course) → Fits 2 (last_piece σ w)
unfolding last_piece when◌give◌else◌
last_fits σ w = by (eqb (w.number + length ks) 0)
  where
    ks : List Move
    ks = kept σ.eps w.point (open_last (w.taken - 2) (segment_in σ w) w.start_param)

    one : length ks ≤ 1
    one = unfold open_last in length-kept move_end (λ x y. near x y σ.eps) w.point (open_last (w.taken - 2) (segment_in σ w) w.start_param)

    ends : PlineVertex
    ends = vertex_at (last_point w.point ks) zero

    by : (t : Bool) → Fits 2 (when t give nothing else record { vertices = corners w.point ks ++ ends ∷ []; flags = (piece_from w.point w.number ks).flags; indexes = (piece_from w.point w.number ks).indexes; origins = (piece_from w.point w.number ks).origins; closed = false })
    by true = nothing-fits 2
    by false =
        let f = piece-fits 1 w.point w.number ks one in
        record { vertices = omega (arith, length-append (corners w.point ks) (ends ∷ []), f.vertices); flags = omega (arith, f.flags); indexes = omega (arith, f.indexes); origins = f.origins }

pub end_fits : (σ : Settings) (w : Course) → Fits 2 (end_piece σ w)
unfolding end_piece when◌give◌else◌
end_fits σ w = by (ltb w.taken 2) (eq σ.offset zero) (eqb w.taken 2 and is_collapsed (segment_in σ w))
  where
    by : (n z l : Bool) → Fits 2 (when n give nothing else when z give record { vertices = w.last ∷ []; flags = []; indexes = []; origins = []; closed = false } else when l give nothing else last_piece σ w)
    by true z l = nothing-fits 2
    by false true l = record { vertices = omega arith; flags = omega arith; indexes = omega arith; origins = omega arith }
    by false false true = nothing-fits 2
    by false false false = last_fits σ w

-- ---- what is handed out is open

pub all_open : (σ : Settings) (vs : List PlineVertex) (d : Drawn) → d.piece.closed ≡ false → (draw_all σ vs d).piece.closed ≡ false
unfolding draw_all
all_open σ [] d o = o
all_open σ (c ∷ vs) d o = all_open σ vs (draw_one σ c d) (one-by σ c d (λ (e : Drawn). e.piece.closed ≡ false) (λ h. o) (λ h e. unfold ◌then◌ in refl) (λ h e. o))

pub end_open : (σ : Settings) (w : Course) → (end_piece σ w).closed ≡ false
unfolding end_piece last_piece when◌give◌else◌
end_open σ w = by (ltb w.taken 2) (eq σ.offset zero) (eqb w.taken 2 and is_collapsed (segment_in σ w))
  where
    last : (last_piece σ w).closed ≡ false
    last = by (eqb (w.number + length (kept σ.eps w.point (open_last (w.taken - 2) (segment_in σ w) w.start_param))) 0) _ _ _ _
      where
        by : (t : Bool) (vs : List PlineVertex) (fs is : List ℕ) (os : List Origin) → (when t give nothing else record { vertices = vs; flags = fs; indexes = is; origins = os; closed = false }).closed ≡ false
        by true vs fs is os = refl
        by false vs fs is os = refl

    by : (n z l : Bool) → (when n give nothing else when z give record { vertices = w.last ∷ []; flags = []; indexes = []; origins = []; closed = false } else when l give nothing else last_piece σ w).closed ≡ false
    by true z l = refl
    by false true l = refl
    by false false true = refl
    by false false false = last
