-- The ways out of a job: each job takes one of them, by its tests in 01's order, and each leads to one verdict, placed in the buffers. Assumes nothing.
use mathlib.Core.Path.{◌≡◌, refl, sym, ap, ◌∙◌, subst}
use mathlib.Core.Logic.{inl, inr, ⊎_elim}
use mathlib.Core.List.{List}
use mathlib.Core.Bool.{Bool, true, false, not, true≢false}
use Prim.Native.Nat.{ℕ, ◌≤◌, ◌<◌}
use native.Mathlib.Omega.{arith}
use borrow.Author.Tests.{ltb-true, ltb-false, leb-true, leb-false, lt-ltb, le-ltb, le-leb, lt-leb, ne_eqb}
use lib.Dec.{T, ltb, leb}
use lib.ListN.{length}
use lib.Ieee.{eq}
use Rattle.std.specs.Prelude.{Err, None, Option, Some}
use Rattle.floats.specs.Binary64.{zero}
use Rattle.floats.specs.Choice.{when◌give◌else◌, ◌and◌}
use Rattle.floats.proofs.Choice.{yes, no, either_fails, both_pass}
use Rattle.floats.proofs.Order.{fails}
use Rattle.segments.specs.declared.PlineVertex.{PlineVertex}
use Rattle.source.specs.Source.{vertices_in, Whole, is_whole}
use Rattle.source.proofs.Source.{whole-told, whole_passes}
use Rattle.refusals.specs.declared.Refusal.{Refusal}
use Rattle.refusals.specs.declared.Refusal.TheVariants.{Ragged, TooMany, BadNumber, NoRoom, Repeated, NotFinite}
use Rattle.refusals.specs.Limits.{number_tests, repeat_tests, first_of}
use Rattle.refusals.proofs.First.{by_test}
use Rattle.refusals.proofs.NumberRow.{number-row, number_nowhere}
use Rattle.refusals.proofs.RepeatedRow.{repeated-row, repeated_nowhere}
use Rattle.refusals.proofs.Bad.{passes, not_fails}
use Rattle.refusals.specs.Table.{number_of}
use Rattle.moves.specs.Drawing.{Drawing, nothing, all_finite}
use Rattle.sheet.specs.Buffers.{Buffers}
use Rattle.walk.specs.Walk.{drawing_of, copied}
use Rattle.job.specs.Verdict.{Verdict, refused, drawn, refuse◌at◌else◌, room_for, finite_verdict, distinct_verdict, roomy_verdict, verdict_of}
use Rattle.job.specs.Job.{Outcome, ending, after_refusal, placed, has_room, job_of}
use Rattle.job.specs.Rows.{Job, outcome, count, fit, places, Countable, Numbers, Roomy, Distinct, Row1, Row2, Row3, Short, vertices, flags, indexes, origins, Row4, Row5, Row6}
use Rattle.job.proofs.Endless.{fails→holds, holds→fails}

-- ---- a search that found a place, and one that did not

by_place : {X : Type 0} (p : Option ℕ) → ((k : ℕ) → p ≡ Some k → X) → (p ≡ None → X) → X
by_place (Some k) f g = f k refl
by_place None f g = g refl

pub found : (p : Option ℕ) (k : ℕ) (r : ℕ → Refusal) (next : Verdict) → p ≡ Some k → refused (r k) ≡ refuse r at p else next
found p k r next e = rw e

pub not_found : (p : Option ℕ) (r : ℕ → Refusal) (next : Verdict) {v : Verdict} → p ≡ None → v ≡ next → v ≡ refuse r at p else next
not_found p r next e q = rw e q

-- ---- what a refusal other than No. 6 leaves

pub as_was : (r : Refusal) (room : ℕ) (old : Buffers) → (number_of r ≡ 6 → ⊥) → after_refusal r room old ≡ old
unfolding after_refusal
as_was r room old h = sym (no _ _ _ (ne_eqb _ _ h) refl)

pub unchanged : (r : Refusal) (room : ℕ) (old : Buffers) → (number_of r ≡ 6 → ⊥) → ending (Err r) old ≡ placed room (refused r) old
unchanged r room old h = ap (ending (Err r)) (sym (as_was r room old h))

-- ---- room

pub all_fit : (r a b c d : ℕ) → (leb r a and (leb r b and (leb r c and leb r d))) ≡ true → (r ≤ a) × (r ≤ b) × (r ≤ c) × (r ≤ d)
all_fit r a b c d e =
    let p = (both_pass (leb r a) (leb r b and (leb r c and leb r d))).0 e in
    let q = (both_pass (leb r b) (leb r c and leb r d)).0 p.1 in
    let s = (both_pass (leb r c) (leb r d)).0 q.1 in
    (leb-true r a p.0, leb-true r b q.0, leb-true r c s.0, leb-true r d s.1)

module _ (j : Job) where
  abbrev pub points : List PlineVertex
  points = vertices_in j.source

  abbrev pub drawing : Drawing
  drawing = drawing_of j.closed j.settings points

  -- whether the room asked for fits
  abbrev fits : Bool
  fits = has_room j.buffers (room_for j.settings.corners j.closed (length points))

  pub room-is : room_for j.settings.corners j.closed (length points) ≡ places j
  unfolding room_for
  room-is = refl

  has_room_lem : Roomy j → fits ≡ true
  unfolding has_room
  has_room_lem r = rw room-is ((both_pass _ _).1 (le-leb _ _ r.vertices, (both_pass _ _).1 (le-leb _ _ r.flags, (both_pass _ _).1 (le-leb _ _ r.indexes, le-leb _ _ r.origins))))

  roomy : Numbers j → 2 ≤ count j → fits ≡ true → Roomy j
  unfolding has_room
  roomy n t e =
      let f = all_fit (places j) (fit j) (length j.buffers.flags) (length j.buffers.indexes) (length j.buffers.origins) (rw room-is at e) in
      record { numbers = n; two = t; vertices = f.0; flags = f.1; indexes = f.2; origins = f.3 }

  no_room : Short j → fits ≡ false
  unfolding has_room
  no_room (vertices h) = rw room-is ((either_fails _ _).1 (inl (lt-leb _ _ h)))
  no_room (flags h) = rw room-is ((either_fails _ _).1 (inr ((either_fails _ _).1 (inl (lt-leb _ _ h)))))
  no_room (indexes h) = rw room-is ((either_fails _ _).1 (inr ((either_fails _ _).1 (inr ((either_fails _ _).1 (inl (lt-leb _ _ h)))))))
  no_room (origins h) = rw room-is ((either_fails _ _).1 (inr ((either_fails _ _).1 (inr ((either_fails _ _).1 (inr (lt-leb _ _ h)))))))

  short : fits ≡ false → Short j
  unfolding has_room
  short e =
      let n = places j in
      let f = length j.buffers.flags in
      let i = length j.buffers.indexes in
      let o = length j.buffers.origins in
      ⊎_elim (λ p. vertices (leb-false _ _ p))
      (λ p.
      ⊎_elim (λ q. flags (leb-false _ _ q)) (λ q. ⊎_elim (λ s. indexes (leb-false _ _ s)) (λ s. origins (leb-false _ _ s)) ((either_fails (leb n i) (leb n o)).0 q))
      ((either_fails (leb n f) (leb n i and leb n o)).0 p))
      ((either_fails (leb n (fit j)) (leb n f and (leb n i and leb n o))).0 (rw room-is at e))

  -- ---- what the verdict is once the first tests are passed

  abbrev verdict : Verdict
  verdict = verdict_of (has_room j.buffers) j.closed j.settings points

  whole_way : Countable j → {v : Verdict}
      → v ≡ refuse BadNumber at first_of (number_tests points j.settings) else when ltb (length points) 2 give drawn nothing else roomy_verdict fits j.closed j.settings points
      → v ≡ verdict
  unfolding verdict_of
  whole_way w q = no _ _ _ (le-ltb 4096 (length points) w.few) q

  numbers_way : Numbers j → {v : Verdict} → v ≡ when ltb (length points) 2 give drawn nothing else roomy_verdict fits j.closed j.settings points → v ≡ verdict
  numbers_way n q = whole_way n.countable (not_found _ _ _ ((number_nowhere _ _).1 n.good) q)

  pub two_way : Numbers j → 2 ≤ count j → {v : Verdict} → v ≡ roomy_verdict fits j.closed j.settings points → v ≡ verdict
  two_way n t q = numbers_way n (no _ _ _ (le-ltb (length points) 2 t) q)

  roomy_way : Roomy j → {v : Verdict} → v ≡ when eq j.settings.offset zero give drawn (copied j.closed points) else distinct_verdict j.closed j.settings points → v ≡ verdict
  roomy_way w q = two_way w.numbers w.two (unfold roomy_verdict in no _ _ _ (ap not (has_room_lem w)) q)

  nonzero_way : Roomy j → (T (eq j.settings.offset zero) → ⊥) → {v : Verdict}
      → v ≡ refuse Repeated at first_of (repeat_tests j.closed points) else finite_verdict drawing → v ≡ verdict
  nonzero_way w n q = roomy_way w (no _ _ _ (fails _ n) (unfold distinct_verdict in q))

  distinct_way : Distinct j → {v : Verdict} → v ≡ finite_verdict drawing → v ≡ verdict
  distinct_way d q = nonzero_way d.roomy d.nonzero (not_found _ _ _ ((repeated_nowhere _ _).1 d.distinct) q)

  -- ---- each way leads to one outcome

  pub data Way : Type 0 where
    ragged : Row1 j → Way
    many : Row2 j → Way
    bad : (k : ℕ) → Row3 j k → Way
    few : Numbers j → count j < 2 → Way
    tight : Row4 j → Way
    copy : Roomy j → T (eq j.settings.offset zero) → Way
    repeated : (k : ℕ) → Row5 j k → Way
    endless : Row6 j → Way
    whole : Distinct j → all_finite drawing.vertices ≡ true → Way

  abbrev pub reached : Way → Verdict
  reached (ragged r) = refused Ragged
  reached (many r) = refused TooMany
  reached (bad k r) = refused (BadNumber k)
  reached (few n h) = drawn nothing
  reached (tight r) = refused NoRoom
  reached (copy r z) = drawn (copied j.closed points)
  reached (repeated k r) = refused (Repeated k)
  reached (endless r) = refused NotFinite
  reached (whole d f) = drawn drawing

  abbrev pub leads_to : Way → Outcome
  leads_to w = placed (places j) (reached w) j.buffers

  -- the verdict with No. 1 before it
  abbrev pub judgement : Verdict
  judgement = when not (is_whole j.source) give refused Ragged else verdict

  ragged_fails : Row1 j → is_whole j.source ≡ false
  ragged_fails r = by_test (is_whole j.source) (λ (e : is_whole j.source ≡ true). absurd (r (whole-told j.source e))) (λ (e : is_whole j.source ≡ false). e)

  pub counted : Whole j.source → {v : Verdict} → v ≡ verdict → v ≡ judgement
  counted h q = no _ _ _ (ap not (whole_passes j.source h)) q

  pub judged : (w : Way) → reached w ≡ judgement
  judged (ragged r) = yes _ _ _ ((not_fails _).1 (ragged_fails r)) refl
  judged (many r) = counted r.whole {v = refused TooMany} (unfold verdict_of in yes _ _ _ (lt-ltb 4096 (length points) r.many) refl)
  judged (bad k r) = counted r.countable.whole (whole_way r.countable (found _ k _ _ ((number-row _ _ k).1 r.bad)))
  judged (few n h) = counted n.countable.whole (numbers_way n (yes _ _ _ (lt-ltb (length points) 2 h) refl))
  judged (tight r) = counted r.numbers.countable.whole {v = refused NoRoom} (two_way r.numbers r.two (unfold roomy_verdict in yes _ _ _ ((not_fails _).1 (no_room r.short)) refl))
  judged (copy r z) = counted r.numbers.countable.whole (roomy_way r (yes _ _ _ ((passes _).1 z) refl))
  judged (repeated k r) = counted r.roomy.numbers.countable.whole (nonzero_way r.roomy r.nonzero (found _ k _ _ ((repeated-row _ _ k).1 r.repeated)))
  judged (endless r) = counted r.distinct.roomy.numbers.countable.whole {v = refused NotFinite} (distinct_way r.distinct (unfold finite_verdict in no _ _ _ (holds→fails _ r.held r.endless) refl))
  judged (whole d f) = counted d.roomy.numbers.countable.whole {v = drawn drawing} (distinct_way d (unfold finite_verdict in yes _ _ _ f refl))

  nowhere : placed (places j) (refused Ragged) j.buffers ≡ placed 0 (refused Ragged) j.buffers
  nowhere = sym (unchanged Ragged (places j) j.buffers (λ h. omega arith)) ∙ unchanged Ragged 0 j.buffers (λ h. omega arith)

  pub job-placed : placed (places j) judgement j.buffers ≡ outcome j
  unfolding job_of room_for
  job-placed = by (is_whole j.source)
    where
      by : (t : Bool) → placed (places j) (when not t give refused Ragged else verdict) j.buffers ≡ when not t give placed 0 (refused Ragged) j.buffers else placed (places j) verdict j.buffers
      by true = unfold when◌give◌else◌ in refl
      by false = unfold when◌give◌else◌ in nowhere

  pub ends : (w : Way) → leads_to w ≡ outcome j
  ends w = ap (λ (v : Verdict). placed (places j) v j.buffers) (judged w) ∙ job-placed

  -- ---- and each job takes one

  from-distinct : Distinct j → Way
  from-distinct d =
      by_test (all_finite drawing.vertices) (λ (e : all_finite drawing.vertices ≡ true). whole d e)
      (λ (e : all_finite drawing.vertices ≡ false).
      let h = fails→holds drawing.vertices e in
      endless (record { distinct = d; x = h.x; held = h.held; endless = h.endless }))

  from-nonzero : Roomy j → (T (eq j.settings.offset zero) → ⊥) → Way
  from-nonzero w n =
      by_place (first_of (repeat_tests j.closed points)) (λ k e. repeated k (record { roomy = w; nonzero = n; repeated = (repeated-row _ _ k).0 e }))
      (λ e. from-distinct (record { roomy = w; nonzero = n; distinct = (repeated_nowhere _ _).0 e }))

  from-roomy : Roomy j → Way
  from-roomy w =
      let t = eq j.settings.offset zero in
      by_test t (λ (e : t ≡ true). copy w ((passes _).0 e)) (λ (e : t ≡ false). from-nonzero w (subst (λ (b : Bool). T b → ⊥) (sym e) (λ f. f)))

  from-two : Numbers j → 2 ≤ count j → Way
  from-two n t = by_test fits (λ (e : fits ≡ true). from-roomy (roomy n t e)) (λ (e : fits ≡ false). tight (record { numbers = n; two = t; short = short e }))

  from-numbers : Numbers j → Way
  from-numbers n =
      by_test (ltb (count j) 2) (λ (e : ltb (count j) 2 ≡ true). few n (ltb-true _ _ e)) (λ (e : ltb (count j) 2 ≡ false). from-two n (ltb-false _ _ e))

  from-countable : Countable j → Way
  from-countable w =
      by_place (first_of (number_tests points j.settings)) (λ k e. bad k (record { countable = w; bad = (number-row _ _ k).0 e }))
      (λ e. from-numbers (record { countable = w; good = (number_nowhere _ _).0 e }))

  from-whole : Whole j.source → Way
  from-whole h =
      by_test (ltb 4096 (count j)) (λ (e : ltb 4096 (count j) ≡ true). many (record { whole = h; many = ltb-true _ _ e }))
      (λ (e : ltb 4096 (count j) ≡ false). from-countable (record { whole = h; few = ltb-false _ _ e }))

  pub way : Way
  way =
      let t = is_whole j.source in
      by_test t (λ (e : t ≡ true). from-whole (whole-told j.source e)) (λ (e : t ≡ false). ragged (λ (h : Whole j.source). true≢false (sym (whole_passes j.source h) ∙ e)))
