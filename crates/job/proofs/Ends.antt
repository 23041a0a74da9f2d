-- What the code's tests and calls show of the job, from each test on. Assumes nothing.
use mathlib.Core.Path.{◌≡◌, refl, sym, ap, ◌∙◌}
use mathlib.Core.List.{List, []}
use mathlib.Core.Bool.{Bool, true, false, not, true≢false}
use Prim.Native.Nat.{ℕ, ◌*◌, ◌≤◌, ◌<◌}
use native.Mathlib.Omega.{arith}
use borrow.Author.Tests.{not-true, not-false}
use lib.Dec.{leb}
use lib.ListN.{length}
use lib.Ieee.{eq}
use Rattle.std.specs.Option.{ok_or}
use Rattle.std.specs.Prelude.{Option, None, Some, Result, Ok, Err}
use Rattle.floats.specs.Binary64.{zero}
use Rattle.floats.specs.Choice.{when◌give◌else◌, ◌and◌}
use Rattle.floats.proofs.Choice.{yes, no}
use Rattle.segments.specs.declared.PlineVertex.{PlineVertex}
use Rattle.segments.specs.declared.Corners.{Corners}
use Rattle.segments.specs.declared.Corners.TheVariants.{Round, Pointed}
use Rattle.segments.specs.declared.Settings.{Settings}
use Rattle.segments.specs.Modes.{are_pointed}
use Rattle.source.specs.Source.{Lent, rows, columns, vertices_in, Whole, is_whole, segments_of}
use Rattle.source.proofs.Source.{whole-told, whole_passes}
use Rattle.source.proofs.Segments.{segments-none, segments-most}
use Rattle.refusals.specs.declared.Refusal.{Refusal}
use Rattle.refusals.specs.declared.Refusal.TheVariants.{Ragged, TooMany, BadNumber, NoRoom, Repeated, NotFinite}
use Rattle.refusals.specs.Limits.{number_tests, repeat_tests, first_of}
use Rattle.refusals.proofs.NumberRow.{number-row, number_nowhere}
use Rattle.moves.specs.declared.RawOffsetResult.{RawOffsetResult}
use Rattle.moves.specs.Drawing.{Drawing, nothing, all_finite, empty_result, result_of}
use Rattle.walk.specs.Walk.{moves_a_segment, drawing_of, copied}
use Rattle.walk.proofs.Lengths.{two-moves}
use Rattle.sheet.proofs.Products.{product_most}
use Rattle.sheet.specs.declared.lent.Marks.{Marks}
use Rattle.sheet.specs.Buffers.{Buffers, flat, laid_in, shown}
use Rattle.sheet.specs.InnerSteps.{Loaned, held_by, held, lent, SameLoans, fitting, showing, Ready, Drawable, Finished, finished, built_of}
use Rattle.sheet.proofs.Holding.{held-made, held-shown, held_same}
use Rattle.moves.proofs.Origins.{origins-length}
use Rattle.job.specs.Verdict.{Verdict, refused, drawn, room_for, finite_verdict, distinct_verdict, roomy_verdict}
use Rattle.job.specs.Job.{Outcome, ending, after_refusal, placed, has_room, job_of}
use Rattle.job.specs.Rows.{Job, places, Numbers}
use Rattle.job.specs.InnerSteps.{moves_if, Counted, from_room}
use Rattle.job.proofs.Ways.{found, not_found, unchanged, all_fit, ragged, many, bad, few, counted, two_way, job-placed, ends}

-- ---- the moves of a segment by the mode, and the room, which is small

pub moves_if_lem : (c : Corners) → moves_if (are_pointed c) ≡ moves_a_segment c
moves_if_lem Round = refl
moves_if_lem (Pointed ratio) = refl

pub moves-most : (pointed : Bool) → moves_if pointed ≤ 3
moves-most true = omega arith
moves-most false = omega arith

pub few-places : (closed : Bool) (v : ℕ) (pointed : Bool) {m n : ℕ} → v ≤ 4096 → m ≡ moves_if pointed → n ≡ segments_of closed v → m * n ≤ 12288
few-places closed v pointed {m} {n} k p h =
    let three : m ≤ 3 = rw p (moves-most pointed) in
    omega (arith, product_most m 3 n three, segments-most closed v, h, k)

-- ---- the first three tests

-- what the test of whole vertices says
pub told-ragged : (s : Lent) {r : Bool} → r ≡ is_whole s → not r ≡ true → Whole s → ⊥
told-ragged s e n w = true≢false (sym (whole_passes s w) ∙ sym e ∙ not-true _ n)

pub told-whole : (s : Lent) {r : Bool} → r ≡ is_whole s → not r ≡ false → Whole s
told-whole s e n = whole-told s (sym e ∙ not-false _ n)

-- nothing in no room is what stood there
nothing-laid : (l : Lent) → laid_in 0 [] l ≡ l
unfolding flat
nothing-laid (rows ns) = refl
nothing-laid (columns xs ys bs) = refl

nothing-shown : (old : Buffers) → shown 0 nothing old ≡ old
unfolding shown
nothing-shown old = rw (nothing-laid old.vertices)

module _ (s : Lent) (closed : Bool) (σ : Settings) (old : Buffers) where
  abbrev job : Job
  job = record { source = s; closed = closed; settings = σ; buffers = old }

  pub ragged-ends : (Whole s → ⊥) → ending (Err Ragged) old ≡ job_of s closed σ old
  ragged-ends h = unchanged Ragged _ old (λ e. omega arith) ∙ ends job (ragged h)

  module _ (h : Whole s) where
    pub many-ends : 4096 < length (vertices_in s) → ending (Err TooMany) old ≡ job_of s closed σ old
    many-ends m = unchanged TooMany _ old (λ e. omega arith) ∙ ends job (many (record { whole = h; many = m }))

    module _ (most : length (vertices_in s) ≤ 4096) where
      pub bad-ends : (k : ℕ) → first_of (number_tests (vertices_in s) σ) ≡ Some k → ending (Err (BadNumber k)) old ≡ job_of s closed σ old
      bad-ends k e =
          unchanged (BadNumber k) _ old (λ e. omega arith) ∙ ends job (bad k (record { countable = record { whole = h; few = most }; bad = (number-row _ _ k).0 e }))

      good : first_of (number_tests (vertices_in s) σ) ≡ None → Numbers job
      good e = record { countable = record { whole = h; few = most }; good = (number_nowhere _ _).0 e }

      pub few-ends : first_of (number_tests (vertices_in s) σ) ≡ None → length (vertices_in s) < 2 → ending (Ok empty_result) old ≡ job_of s closed σ old
      few-ends e t =
          let z : moves_a_segment σ.corners * 0 ≡ 0 = omega arith in
          ap (ending (Ok empty_result)) (sym (rw (segments-none closed (length (vertices_in s)) t, z) (nothing-shown old))) ∙ ends job (few (good e) t)

      pub good-ends : first_of (number_tests (vertices_in s) σ) ≡ None → 2 ≤ length (vertices_in s) → {o : Outcome} → o ≡ from_room (vertices_in s) closed σ old → o ≡ job_of s closed σ old
      unfolding room_for
      good-ends e t q = q ∙ ap (λ (v : Verdict). placed (places job) v old) (counted job h (two_way job (good e) t refl)) ∙ job-placed job

-- ---- from No. 4 on. The code has the mode, n segments, m moves a segment, how many vertices fit, and the answer t of its test of the room.

module _ (s : List PlineVertex) (closed : Bool) (l : Loaned) (b : Marks) (σ : Settings) (pointed : Bool) (mode : pointed ≡ are_pointed σ.corners) (v m n fit : ℕ) (t : Bool)
    (counts : Counted v s) (moves : m ≡ moves_if pointed) (h : n ≡ segments_of closed v) (k : fit ≡ length (held_by l).made)
    (r : t ≡ (leb (m * n) fit and (leb (m * n) (length b.flags.now) and (leb (m * n) (length b.indexes.now) and leb (m * n) (length b.origins.now))))) where
  abbrev old : Buffers
  old = lent l b

  abbrev room : ℕ
  room = room_for σ.corners closed (length s)

  pub room-is : m * n ≡ room
  unfolding room_for
  room-is = rw (moves, mode, h, counts.long, moves_if_lem σ.corners)

  abbrev fits : Bool
  fits = has_room old room

  tested : t ≡ fits
  unfolding has_room
  tested = r ∙ rw (room-is, k, held-made l, origins-length b.origins.now)

  pub drawable : not t ≡ false → Drawable v (segments_of closed v) (m * n) σ pointed s (held l b)
  drawable e =
      let fit = all_fit (m * n) fit (length b.flags.now) (length b.indexes.now) (length b.origins.now) (sym r ∙ not-false t e) in
      record {
        ready = record {
          long = counts.long;
          two = counts.two;
          most = counts.most;
          vertices = rw (← k) fit.0;
          flags = fit.1;
          indexes = fit.2;
          origins = rw (origins-length b.origins.now) fit.3;
        };
        told = mode;
        enough = let e = room-is in rw counts.long (unfold room_for in omega (arith, e));
        small = few-places closed v pointed counts.most moves h;
      }

  pub copyable : not t ≡ false → Ready v (m * n) s (held l b) × (2 * segments_of closed v ≤ m * n) × (m * n ≤ 12288)
  copyable e =
      let d = drawable e in
      (d.ready, omega (arith, d.enough, product_most 2 (moves_a_segment σ.corners) (segments_of closed v) (two-moves σ.corners)), d.small)

  -- what is placed
  abbrev judged : Verdict → Outcome
  judged x = placed room x old

  abbrev verdict : Verdict
  verdict = roomy_verdict fits closed σ s

  pub no_room : not t ≡ true → ending (Err NoRoom) old ≡ judged verdict
  unfolding roomy_verdict
  no_room e = unchanged NoRoom _ old (λ z. omega arith) ∙ ap judged (yes _ _ _ (ap not (sym tested) ∙ e) refl)

  pub zero-offset : not t ≡ false → eq σ.offset zero ≡ true → {a : RawOffsetResult} (l' : Loaned) (b' : Marks) → a ≡ result_of (copied closed s)
      → held l' b' ≡ showing (m * n) (copied closed s) (held l b) → ending (Ok a) (lent l' b') ≡ judged verdict
  unfolding roomy_verdict
  zero-offset e z l' b' p q =
      let shows = held-shown l l' b b' (m * n) (copied closed s) (drawable e).ready.vertices q in
      rw (p, shows, room-is) (ap judged (no _ _ _ (ap not (sym tested) ∙ e) (yes _ _ _ z refl)))

  pub nonzero-offset : not t ≡ false → eq σ.offset zero ≡ false → {x : Outcome} → x ≡ placed (m * n) (distinct_verdict closed σ s) old → x ≡ judged verdict
  unfolding roomy_verdict
  nonzero-offset e z q = q ∙ rw room-is (ap judged (no _ _ _ (ap not (sym tested) ∙ e) (no _ _ _ z refl)))

-- ---- from No. 5 on

-- what is answered of what was built
abbrev pub answered : Option RawOffsetResult → Result RawOffsetResult Refusal
answered r = ok_or r NotFinite

module _ (l l' : Loaned) (m m' : Marks) (room : ℕ) (fits : room ≤ fitting (held l m)) where
  built-ends : (d : Drawing) {x : Option RawOffsetResult} → finished x (held l' m') ≡ built_of room d (held l m) → ending (answered x) (lent l' m') ≡ placed room (finite_verdict d) (lent l m)
  unfolding built_of finite_verdict after_refusal when◌give◌else◌
  built-ends d {x} h = by (all_finite d.vertices) h
    where
      by : (t : Bool) → finished x (held l' m') ≡ when t give finished (Some (result_of d)) (showing room d (held l m)) else finished None (showing room nothing (held l m))
          → ending (answered x) (lent l' m') ≡ placed room (when t give drawn d else refused NotFinite) (lent l m)
      by true e = rw (ap (λ (y : Finished). y.built) e, held-shown l l' m m' room d fits (ap (λ (y : Finished). y.buffers) e))
      by false e = rw (ap (λ (y : Finished). y.built) e, held-shown l l' m m' room nothing fits (ap (λ (y : Finished). y.buffers) e))

  pub built-same : (d : Drawing) {x : Option RawOffsetResult} → finished x (held l' m') ≡ built_of room d (held l m) → SameLoans l m l' m'
  unfolding built_of when◌give◌else◌
  built-same d {x} h = by (all_finite d.vertices) h
    where
      by : (t : Bool) → finished x (held l' m') ≡ when t give finished (Some (result_of d)) (showing room d (held l m)) else finished None (showing room nothing (held l m)) → SameLoans l m l' m'
      by true e = held_same l l' m m' room d (ap (λ (y : Finished). y.buffers) e)
      by false e = held_same l l' m m' room nothing (ap (λ (y : Finished). y.buffers) e)

  module _ (closed : Bool) (σ : Settings) (vs : List PlineVertex) where
    pub drawn-ends : first_of (repeat_tests closed vs) ≡ None → {x : Option RawOffsetResult} → finished x (held l' m') ≡ built_of room (drawing_of closed σ vs) (held l m)
        → ending (answered x) (lent l' m') ≡ placed room (distinct_verdict closed σ vs) (lent l m)
    unfolding distinct_verdict
    drawn-ends e h = built-ends (drawing_of closed σ vs) h ∙ ap (λ x. placed room x (lent l m)) (not_found _ _ _ e refl)

pub repeated-ends : (closed : Bool) (σ : Settings) (vs : List PlineVertex) (room : ℕ) (old : Buffers) (k : ℕ) → first_of (repeat_tests closed vs) ≡ Some k
    → ending (Err (Repeated k)) old ≡ placed room (distinct_verdict closed σ vs) old
unfolding distinct_verdict
repeated-ends closed σ vs room old k e = unchanged (Repeated k) _ old (λ e. omega arith) ∙ ap (λ x. placed room x old) (found _ k _ _ e)
