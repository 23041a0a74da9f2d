-- The answer to each question is held to the job's own answer and buffers (`tells`): a refusal of the job, but for room, is the answer, and room never is; No. 8 is given exactly where
-- there is no such output segment; the flag is set exactly for the reasons 2, 3 and 7 to 11; and what is told is the segment of a copy, or the k-th kept move of the walk.
-- An answer is the same in either layout (`why_carried`). Assumes nothing.
use mathlib.Core.Path.{◌≡◌, refl, sym, ap, ◌∙◌, subst}
use mathlib.Core.Logic.{◌⊎◌, inl, inr, ◌↔◌}
use mathlib.Core.List.{List, [], ◌∷◌, ◌++◌, append_assoc, Memᴰ}
use mathlib.Core.Bool.{Bool, true, false, not, true≢false, false≢true}
use Prim.Native.Nat.{ℕ, zero, suc, ◌-◌, ◌≤◌, ◌<◌}
use native.Mathlib.Nat.{zero-add}
use native.Mathlib.Omega.{arith}
use borrow.Author.Tests.{ltb-true, ltb-false, lt-ltb, le-ltb}
use lib.Dec.{T, ltb}
use lib.ListN.{length, drop, get_or, replicate, length-append, length-replicate, get_or-replicate, get_or-append}
use lib.Ieee.{eq}
use Rattle.std.specs.Prelude.{None, Option, Some, Result, Ok, Err}
use Rattle.floats.specs.Binary64 as B
use Rattle.floats.specs.Choice.{when◌give◌else◌}
use Rattle.floats.proofs.Choice.{yes, no}
use Rattle.floats.proofs.Order.{fails}
use Rattle.vectors.specs.declared.Vector2.{Vector2}
use Rattle.segments.specs.declared.PlineVertex.{PlineVertex}
use Rattle.segments.specs.declared.Settings.{Settings}
use Rattle.source.specs.Source.{Lent, is_whole, segments_of}
use Rattle.source.proofs.Source.{whole_same}
use Rattle.source.proofs.Segments.{segments-closed, segments_open, segments-none}
use Rattle.refusals.specs.declared.Refusal.{Refusal}
use Rattle.refusals.specs.declared.Refusal.TheVariants.{Ragged, TooMany, BadNumber, NoRoom, NoSuchSegment}
use Rattle.refusals.specs.Limits.{number_tests, first_of}
use Rattle.refusals.proofs.First.{by_test}
use Rattle.refusals.proofs.Bad.{passes}
use Rattle.moves.specs.declared.Move.{Move}
use Rattle.moves.specs.declared.Origin.{Origin}
use Rattle.moves.specs.declared.Origin.TheVariants.{Span, Connector}
use Rattle.moves.specs.declared.Reason.{Reason}
use Rattle.moves.specs.declared.Reason.TheVariants.{InOrder, TurnedBack, CollapsedArc, Round, Reversal, Meeting, CollapsedSide, NoMeeting, CandidatesMissed, ZeroTangent, SameDirection, Copied, Pointed}
use Rattle.moves.specs.declared.RawOffsetResult.{RawOffsetResult}
use Rattle.moves.specs.Reason.{reason_number, is_invalid}
use Rattle.moves.specs.Drawing.{Drawing, nothing, move_end, kept, origins_of, all_finite, result_of}
use Rattle.moves.specs.Sound.{Sound, invalid_at, segment_count}
use Rattle.moves.proofs.Kept.{kept_mem}
use Rattle.moves.proofs.Choices.{one_choice}
use Rattle.walk.specs.Walk.{walk_start, walk_moves, walk_drawing, lone_collapsed, drawing_of, spans_from, copied}
use Rattle.walk.specs.Spans.{Edge, whole_start, whole_end, starts_of, ends_of}
use Rattle.walk.specs.Branches.{Is, Made}
use Rattle.walk.proofs.Branches.{made}
use Rattle.walk.proofs.Unmet.{never_met}
use Rattle.walk.proofs.Origins.{length_spans, span-at}
use Rattle.sheet.specs.Buffers.{Buffers, padded, no_origin, shown}
use Rattle.job.specs.Verdict.{Verdict, refused, drawn, refuse◌at◌else◌, room_for, roomy_verdict, verdict_of}
use Rattle.job.specs.Job.{Outcome, placed, has_room, job_of}
use Rattle.job.specs.Layouts.{SameSource}
use Rattle.job.specs.Rows.{Job, outcome, count, places, Roomy, Distinct}
use Rattle.job.specs.Demand3.{close}
use Rattle.job.proofs.Ways.{points, drawing, Way, ragged, many, bad, few, tight, copy, repeated, endless, whole, leads_to, ends, way}
use Rattle.job.proofs.Demand3.{walk-sound}
use Rattle.job.proofs.Assertions.{above}
use Rattle.why.specs.declared.Telling.{Telling}
use Rattle.why.specs.Why.{telling_for, telling_of, told_at, walk_answer, copy_answer, answer_by, why_of}
use Rattle.why.specs.Claim.{answered, segments_in, Flagged, turned_back, collapsed, gap, Shows, KthKept, OfDone, Claim}
use Rattle.why.proofs.Roomless.{only_given}

-- ---- the job's verdict, and the one with room for anything

-- the tests from No. 2 on; the last is that of the room
abbrev tested : Bool → Option ℕ → Bool → Bool → Verdict → Verdict
tested long p short fits next = when long give refused TooMany else refuse BadNumber at p else when short give drawn nothing else when not fits give refused NoRoom else next

tight_or-same : (long : Bool) (p : Option ℕ) (short fits : Bool) (next : Verdict)
    → (tested long p short fits next ≡ refused NoRoom) ⊎ (tested long p short fits next ≡ tested long p short true next)
unfolding when◌give◌else◌
tight_or-same long p short true next = inr refl
tight_or-same true p short false next = inr refl
tight_or-same false (Some k) short false next = inr refl
tight_or-same false None true false next = inr refl
tight_or-same false None false false next = inl refl

room_aside : (fits : ℕ → Bool) (closed : Bool) (σ : Settings) (vs : List PlineVertex)
    → (verdict_of fits closed σ vs ≡ refused NoRoom) ⊎ (verdict_of fits closed σ vs ≡ verdict_of (λ room. true) closed σ vs)
unfolding verdict_of roomy_verdict
room_aside fits closed σ vs = tight_or-same (ltb 4096 (length vs)) (first_of (number_tests vs σ)) (ltb (length vs) 2) (fits (room_for σ.corners closed (length vs))) _

-- what is answered where the job is not refused for room: its own refusal, or else what is told
abbrev instead : Result Telling Refusal → Result RawOffsetResult Refusal → Result Telling Refusal
instead told (Ok r) = told
instead told (Err r) = Err r

module _ (told : Result Telling Refusal) (room : ℕ) (old : Buffers) where
  by_verdict : (v : Verdict) → answer_by v told ≡ instead told (placed room v old).answer
  by_verdict (refused r) = refl
  by_verdict (drawn d) = refl

  by_verdicts : (v v' : Verdict) → (v ≡ refused NoRoom) ⊎ (v ≡ v') → ((placed room v old).answer ≡ Err NoRoom → ⊥)
      → answer_by v' told ≡ instead told (placed room v old).answer
  by_verdicts v v' (inl e) h = absurd (h (ap (λ (x : Verdict). (placed room x old).answer) e))
  by_verdicts v v' (inr e) h = ap (λ (x : Verdict). answer_by x told) (sym e) ∙ by_verdict v

  by_length : (t : Bool) (v v' : Verdict) → (v ≡ refused NoRoom) ⊎ (v ≡ v')
      → let o : Outcome = when t give placed 0 (refused Ragged) old else placed room v old in (o.answer ≡ Err NoRoom → ⊥)
      → (when t give Err Ragged else answer_by v' told) ≡ instead told o.answer
  unfolding when◌give◌else◌
  by_length true v v' e h = refl
  by_length false v v' e h = by_verdicts v v' e h

module _ (j : Job) (k : ℕ) where
  abbrev told : Result Telling Refusal
  told = when eq j.settings.offset B.zero give copy_answer (segments_of j.closed (length (points j))) k else walk_answer j.closed j.settings (points j) k

  by-job : ((outcome j).answer ≡ Err NoRoom → ⊥) → answered j k ≡ instead told (outcome j).answer
  unfolding why_of job_of
  by-job = by_length told _ j.buffers (not (is_whole j.source)) _ _ (room_aside (has_room j.buffers) j.closed j.settings (points j))

  by-refusal : (r : Refusal) → (outcome j).answer ≡ Err r → (r ≡ NoRoom → ⊥) → answered j k ≡ Err r
  by-refusal r e n = by-job (λ q. n (cc)) ∙ ap (instead told) e

  by-done : (r : RawOffsetResult) → (outcome j).answer ≡ Ok r → answered j k ≡ told
  by-done r e = by-job (λ q. true≢false (cc)) ∙ ap (instead told) e

-- ---- reasons and flags

outside : (n : ℕ) → (n ≡ 2 → ⊥) → (n ≡ 3 → ⊥) → (7 ≤ n → n ≤ 11 → ⊥) → Flagged n → ⊥
outside n a b c (turned_back e) = a e
outside n a b c (collapsed e) = b e
outside n a b c (gap l h) = c l h

-- a reason that sets no flag is none of those
unset : (n : ℕ) → (n ≡ 2 → ⊥) → (n ≡ 3 → ⊥) → (7 ≤ n → n ≤ 11 → ⊥) → (false ≡ true) ↔ Flagged n
unset n a b c = (λ e. absurd (false≢true e), λ f. absurd (outside n a b c f))

invalid↔flagged : (r : Reason) → (is_invalid r ≡ true) ↔ Flagged (reason_number r)
invalid↔flagged InOrder = unset 1 (λ e. omega arith) (λ e. omega arith) (λ l h. omega arith)
invalid↔flagged TurnedBack = (λ e. turned_back refl, λ f. refl)
invalid↔flagged CollapsedArc = (λ e. collapsed refl, λ f. refl)
invalid↔flagged Round = unset 4 (λ e. omega arith) (λ e. omega arith) (λ l h. omega arith)
invalid↔flagged Reversal = unset 5 (λ e. omega arith) (λ e. omega arith) (λ l h. omega arith)
invalid↔flagged Meeting = unset 6 (λ e. omega arith) (λ e. omega arith) (λ l h. omega arith)
invalid↔flagged CollapsedSide = (λ e. gap (omega arith) (omega arith), λ f. refl)
invalid↔flagged NoMeeting = (λ e. gap (omega arith) (omega arith), λ f. refl)
invalid↔flagged CandidatesMissed = (λ e. gap (omega arith) (omega arith), λ f. refl)
invalid↔flagged ZeroTangent = (λ e. gap (omega arith) (omega arith), λ f. refl)
invalid↔flagged SameDirection = (λ e. gap (omega arith) (omega arith), λ f. refl)
invalid↔flagged Copied = unset 12 (λ e. omega arith) (λ e. omega arith) (λ l h. omega arith)
invalid↔flagged Pointed = unset 13 (λ e. omega arith) (λ e. omega arith) (λ l h. omega arith)

-- the flags and the origins that a drawing leaves in the buffers are its own
padded-at : {A : Type 0} (z : A) (room : ℕ) (xs old : List A) (i : ℕ) (e : A) → i < length xs → get_or (padded z room xs old) i e ≡ get_or xs i e
padded-at z room xs old i e h =
    let unused = replicate (room - length xs) z in
    ap (λ ys. get_or ys i e) (append_assoc xs unused (drop room old)) ∙ get_or-append xs (unused ++ drop room old) e i h

shown-flag : (room : ℕ) (d : Drawing) (old : Buffers) (i : ℕ) → i < length d.flags → get_or (shown room d old).flags i 0 ≡ get_or d.flags i 0
unfolding shown
shown-flag room d old i h = padded-at 0 room d.flags old.flags i 0 h

shown-origin : (room : ℕ) (d : Drawing) (old : Buffers) (i : ℕ) {o : Origin} → Is d.origins i o → Is (shown room d old).origins i o
unfolding shown
shown-origin room d old i {o} h = record {
  there = omega (arith, h.there, length-append (d.origins ++ replicate (room - length d.origins) no_origin) (drop room old.origins), length-append d.origins (replicate (room - length d.origins) no_origin));
  is = padded-at no_origin room d.origins old.origins i o h.there ∙ h.is;
}

-- ---- rows

-- the origin of the k-th move is the k-th origin
origin-at : (ms : List Move) (k : ℕ) (m : Move) → Is ms k m → Is (origins_of ms) k m.origin
unfolding origins_of
origin-at [] k m h = absurd (let t = h.there in omega arith)
origin-at (x ∷ ms) zero m h = record { there = omega arith; is = ap (λ (y : Move). y.origin) h.is }
origin-at (x ∷ ms) (suc k) m h = let w = origin-at ms k m (record { there = omega (arith, h.there); is = h.is }) in record { there = omega (arith, w.there); is = w.is }

any_default : {A : Type 0} (xs : List A) (i : ℕ) (d e : A) → i < length xs → get_or xs i d ≡ get_or xs i e
any_default [] i d e h = absurd (omega arith)
any_default (x ∷ xs) zero d e h = refl
any_default (x ∷ xs) (suc i) d e h = any_default xs i d e (omega arith)

row_is : {A : Type 0} (xs : List A) (i : ℕ) (d : A) {x : A} → Is xs i x → get_or xs i d ≡ x
row_is xs i d {x} h = any_default xs i d x h.there ∙ h.is

module _ (S E : List Edge) where
  -- the k-th of a row of moves, and what is told of it
  record Kth (ms : List Move) (k : ℕ) : Type 0 where
    move : Move
    kth : Is ms k move
    mem : Memᴰ move ms
    invalid : invalid_at ms k ≡ is_invalid move.reason
    told : told_at S E ms k ≡ Ok (telling_of S E move.reason move.origin)

  kth-there : (ms : List Move) (k : ℕ) → k < length ms → Kth ms k
  unfolding invalid_at told_at
  kth-there [] k h = absurd (omega arith)
  kth-there (m ∷ ms) zero h = record { move = m; kth = record { there = h; is = refl }; mem = Memᴰ.head refl; invalid = refl; told = refl }
  kth-there (m ∷ ms) (suc k) h =
      let w = kth-there ms k (omega arith) in
      record { move = w.move; kth = record { there = h; is = w.kth.is }; mem = Memᴰ.tail w.mem; invalid = w.invalid; told = w.told }

  no-kth : (ms : List Move) (k : ℕ) → length ms ≤ k → told_at S E ms k ≡ Err NoSuchSegment
  unfolding told_at
  no-kth [] k h = refl
  no-kth (m ∷ ms) zero h = absurd (omega arith)
  no-kth (m ∷ ms) (suc k) h = no-kth ms k (omega arith)

  telling-is : (r : Reason) (o : Origin) → ((telling_of S E r o).origin ≡ o) × ((telling_of S E r o).reason ≡ r)
  unfolding telling_of
  telling-is r (Span i) = (refl, refl)
  telling-is r (Connector i) = (refl, refl)

shows : (closed : Bool) (σ : Settings) (a b : PlineVertex) (vs : List PlineVertex) (r : Reason) (m : Move) (o : Origin) → Made closed σ a b vs m o
    → Shows closed σ a b vs (telling_of (starts_of closed σ a b vs) (ends_of closed σ a b vs) r o) o
unfolding telling_of
shows closed σ a b vs r m (Span i) w = (w.start, w.end, w.start_is, w.end_is, rw (row_is _ _ whole_start w.start_is, row_is _ _ whole_end w.end_is))
shows closed σ a b vs r m (Connector i) w = refl

-- ---- an output segment that is not there, and one that is
module _ (j : Job) (k : ℕ) (r : RawOffsetResult) where
  none-there : answered j k ≡ Err NoSuchSegment → segments_in r ≤ k → OfDone j k r
  none-there e h = record {
    none = (λ q. h, λ q. e);
    there = λ l. absurd (omega arith);
    flag = λ t q. absurd (other t q);
    origin = λ t q. absurd (other t q);
    copied = λ t q. absurd (other t q);
    kept = λ t q. absurd (other t q);
  }
    where
      other : (t : Telling) → answered j k ≡ Ok t → ⊥
      other t q = true≢false (cc)

  one-there : (t : Telling) → answered j k ≡ Ok t → k < segments_in r → (get_or (outcome j).buffers.flags k 0 ≡ 1) ↔ Flagged (reason_number t.reason)
      → Is (outcome j).buffers.origins k t.origin
      → (T (eq j.settings.offset B.zero) → t ≡ telling_for whole_start whole_end Copied (Span (record { 0 = k }))) → ((T (eq j.settings.offset B.zero) → ⊥) → KthKept j k t)
      → OfDone j k r
  one-there t e l f o c w = record {
    none = (λ q. absurd (true≢false (cc)), λ h. absurd (omega arith));
    there = λ h. (t, e);
    flag = λ u q. subst (λ (x : Telling). (get_or (outcome j).buffers.flags k 0 ≡ 1) ↔ Flagged (reason_number x.reason)) (same u q) f;
    origin = λ u q. subst (λ (x : Telling). Is (outcome j).buffers.origins k x.origin) (same u q) o;
    copied = λ u q z. sym (same u q) ∙ c z;
    kept = λ u q n. subst (KthKept j k) (same u q) (w n);
  }
    where
      same : (u : Telling) → answered j k ≡ Ok u → t ≡ u
      same u q = cc

-- ---- a copy

copy_told : (n k : ℕ) → k < n → copy_answer n k ≡ Ok (telling_for whole_start whole_end Copied (Span (record { 0 = k })))
unfolding copy_answer
copy_told n k h = sym (yes _ _ _ (lt-ltb k n h) refl)

copy-none : (n k : ℕ) → n ≤ k → copy_answer n k ≡ Err NoSuchSegment
unfolding copy_answer
copy-none n k h = sym (no _ _ _ (le-ltb k n h) refl)

copy-segments : (closed : Bool) (vs : List PlineVertex) → 2 ≤ length vs → segments_in (result_of (copied closed vs)) ≡ segments_of closed (length vs)
unfolding copied when◌give◌else◌
copy-segments true vs h = sym (segments-closed (length vs) h)
copy-segments false vs h = sym (segments_open (length vs) h)

zero↔flagged : (x : ℕ) → x ≡ 0 → (x ≡ 1) ↔ Flagged (reason_number Copied)
zero↔flagged x e = (λ q. absurd (omega arith), λ f. absurd (false≢true ((invalid↔flagged Copied).1 f)))

module _ (j : Job) (k : ℕ) (r : Roomy j) (z : T (eq j.settings.offset B.zero)) (is : outcome j ≡ leads_to j (copy r z)) where
  abbrev n : ℕ
  n = segments_of j.closed (length (points j))

  as_copied : answered j k ≡ copy_answer n k
  as_copied = by-done j k _ (ap (λ (o : Outcome). o.answer) is) ∙ sym (yes _ _ _ ((passes _).1 z) refl)

  segments : segments_in (result_of (copied j.closed (points j))) ≡ n
  segments = copy-segments j.closed (points j) r.two

  clear : k < n → get_or (outcome j).buffers.flags k 0 ≡ 0
  unfolding copied
  clear l =
      ap (λ (o : Outcome). get_or o.buffers.flags k 0) is ∙ shown-flag (places j) (copied j.closed (points j)) j.buffers k (rw (length-replicate {A = ℕ} n 0) l)
      ∙ get_or-replicate n k 0 0 l

  itself : k < n → Is (outcome j).buffers.origins k (Span (record { 0 = k }))
  unfolding copied
  itself l =
      let spans = spans_from 0 n in
      subst (λ (o : Outcome). Is o.buffers.origins k (Span (record { 0 = k }))) (sym is)
      (shown-origin (places j) (copied j.closed (points j)) j.buffers k
      (record { there = rw (length_spans 0 n) l; is = span-at 0 n k (Span (record { 0 = k })) l ∙ rw zero-add }))

  of-copy : OfDone j k (result_of (copied j.closed (points j)))
  of-copy =
      by_test (ltb k n)
      (λ t.
      let l = ltb-true k n t in
      one-there j k _ _ (as_copied ∙ copy_told n k l) (rw segments l) (zero↔flagged _ (clear l)) (itself l) (λ q. refl) (λ q. absurd (q z)))
      (λ t.
      let h = ltb-false k n t in
      none-there j k _ (as_copied ∙ copy-none n k h) (rw segments h))

-- ---- a walk over two vertices or more
module _ (j : Job) (k : ℕ) (a b : PlineVertex) (vs : List PlineVertex) (source : points j ≡ a ∷ b ∷ vs) (way : Distinct j) (fine : all_finite (drawing j).vertices ≡ true)
    (is : outcome j ≡ leads_to j (whole way fine)) where
  abbrev p : Vector2
  p = walk_start j.closed j.settings a b vs

  abbrev ms : List Move
  ms = walk_moves j.closed j.settings a b vs

  abbrev ks : List Move
  ks = kept j.settings.eps p ms

  abbrev d : Drawing
  d = walk_drawing j.closed j.settings a b vs

  abbrev starts : List Edge
  starts = starts_of j.closed j.settings a b vs

  abbrev ends_at : List Edge
  ends_at = ends_of j.closed j.settings a b vs

  abbrev lone : Bool
  lone = lone_collapsed j.closed j.settings (a ∷ b ∷ vs)

  as_walked : answered j k ≡ when lone give Err NoSuchSegment else told_at starts ends_at ks k
  unfolding walk_answer
  as_walked = by-done j k _ (ap (λ (o : Outcome). o.answer) is) ∙ sym (no _ _ _ (fails _ way.nonzero) refl) ∙ ap (λ (ws : List PlineVertex). walk_answer j.closed j.settings ws k) source

  drawn-is : drawing j ≡ when lone give nothing else d
  unfolding drawing_of
  drawn-is = ap (drawing_of j.closed j.settings) source

  -- a lone collapsed arc draws nothing
  of-lone : lone ≡ true → OfDone j k (result_of (drawing j))
  of-lone l =
      subst (λ (x : Drawing). OfDone j k (result_of x)) (yes lone nothing d l refl ∙ sym drawn-is)
      (none-there j k _ (as_walked ∙ sym (yes lone _ _ l refl)) (unfold when◌give◌else◌ in omega arith))

  module _ (l : lone ≡ false) where
    same : drawing j ≡ d
    same = drawn-is ∙ sym (no lone nothing d l refl)

    finite : all_finite d.vertices ≡ true
    finite = ap (λ (x : Drawing). all_finite x.vertices) (sym same) ∙ fine

    sound : Sound j.settings.eps ks d
    sound = walk-sound j.settings a b vs j.closed

    kept-segments : segments_in (result_of (drawing j)) ≡ length ks
    unfolding segment_count
    kept-segments = ap (λ (x : Drawing). segments_in (result_of x)) same ∙ sound.segments

    as_kept : answered j k ≡ told_at starts ends_at ks k
    as_kept = as_walked ∙ sym (no lone _ _ l refl)

    module _ (here : k < length ks) (w : Kth starts ends_at ks k) where
      flag_is : get_or (outcome j).buffers.flags k 0 ≡ get_or d.flags k 0
      flag_is =
          ap (λ (o : Outcome). get_or o.buffers.flags k 0) is ∙ ap (λ (x : Drawing). get_or (shown (places j) x j.buffers).flags k 0) same
          ∙ shown-flag (places j) d j.buffers k (rw (sound.flags, sound.segments) here)

      flag↔ : (get_or (outcome j).buffers.flags k 0 ≡ 1) ↔ Flagged (reason_number w.move.reason)
      flag↔ = (
        λ e. (invalid↔flagged w.move.reason).0 (sym w.invalid ∙ (sound.invalid k).0 ((sound.flagged k).1 (sym flag_is ∙ e))),
        λ f. flag_is ∙ (sound.flagged k).0 ((sound.invalid k).1 (w.invalid ∙ (invalid↔flagged w.move.reason).1 f)),
      )

      origin-is : Is (outcome j).buffers.origins k w.move.origin
      origin-is =
          subst (λ (o : Outcome). Is o.buffers.origins k w.move.origin) (sym is)
          (subst (λ (x : Drawing). Is (shown (places j) x j.buffers).origins k w.move.origin) (sym same)
          (shown-origin (places j) d j.buffers k (subst (λ os. Is os k w.move.origin) (sym sound.origins) (origin-at ks k w.move w.kth))))

      from-rows : Made j.closed j.settings a b vs w.move w.move.origin
      from-rows = made j.closed j.settings a b vs w.move (kept_mem move_end (close j) p ms w.mem)

      kth-kept : KthKept j k (telling_of starts ends_at w.move.reason w.move.origin)
      kth-kept =
          let t = telling-is starts ends_at w.move.reason w.move.origin in
          record {
            start = p;
            moves = ms;
            walk = record { a = a; b = b; others = vs; source = source; start = refl; moves = refl };
            ks = ks;
            choice = one_choice move_end (close j) p ms;
            move = w.move;
            kth = w.kth;
            origin = t.0;
            reason = t.1;
            made = from-rows;
            shows = shows j.closed j.settings a b vs w.move.reason w.move w.move.origin from-rows;
            unmet = λ e. never_met j.closed j.settings a b vs (above j way.roomy.numbers) finite w.move w.mem (sym t.1 ∙ e);
          }

      of-kth : OfDone j k (result_of (drawing j))
      of-kth =
          let t = telling-is starts ends_at w.move.reason w.move.origin in
          one-there j k _ (telling_of starts ends_at w.move.reason w.move.origin) (as_kept ∙ w.told) (rw kept-segments here)
          (subst (λ (r : Reason). (get_or (outcome j).buffers.flags k 0 ≡ 1) ↔ Flagged (reason_number r)) (sym t.1) flag↔) (subst (Is (outcome j).buffers.origins k) (sym t.0) origin-is) (λ z. absurd (way.nonzero z)) (λ n. kth-kept)

    of-kept : OfDone j k (result_of (drawing j))
    of-kept =
        by_test (ltb k (length ks))
        (λ t.
        let h = ltb-true k (length ks) t in
        of-kth h (kth-there starts ends_at ks k h))
        (λ t.
        let h = ltb-false k (length ks) t in
        none-there j k _ (as_kept ∙ no-kth starts ends_at ks k h) (rw kept-segments h))

  of-walk : OfDone j k (result_of (drawing j))
  of-walk = by_test lone of-lone of-kept

-- ---- an accepted job, by its way
module _ (j : Job) (k : ℕ) where
  few-told : (ws : List PlineVertex) → length ws < 2 → (t : Bool)
      → (when t give copy_answer (segments_of j.closed (length ws)) k else walk_answer j.closed j.settings ws k) ≡ Err NoSuchSegment
  unfolding when◌give◌else◌ walk_answer
  few-told ws l true = rw (segments-none j.closed (length ws) l) (copy-none 0 k (omega arith))
  few-told [] l false = refl
  few-told (a ∷ []) l false = refl
  few-told (a ∷ b ∷ vs) l false = absurd (omega arith)

  of-few : count j < 2 → (outcome j).answer ≡ Ok (result_of nothing) → OfDone j k (result_of nothing)
  of-few h e =
      none-there j k _ (by-done j k _ e ∙ few-told (points j) h (eq j.settings.offset B.zero)) (unfold when◌give◌else◌ in omega arith)

  by_way : (w : Way j) → outcome j ≡ leads_to j w → (r : RawOffsetResult) → (leads_to j w).answer ≡ Ok r → OfDone j k r
  by_way (ragged x) is r e = absurd (true≢false (cc))
  by_way (many x) is r e = absurd (true≢false (cc))
  by_way (bad i x) is r e = absurd (true≢false (cc))
  by_way (few n h) is r e = subst (OfDone j k) (cc) (of-few h (ap (λ (o : Outcome). o.answer) is))
  by_way (tight x) is r e = absurd (true≢false (cc))
  by_way (copy x z) is r e = subst (OfDone j k) (cc) (of-copy j k x z is)
  by_way (repeated i x) is r e = absurd (true≢false (cc))
  by_way (endless x) is r e = absurd (true≢false (cc))
  by_way (whole x f) is r e = subst (OfDone j k) (cc) (from-two (points j) refl)
    where
      from-two : (ws : List PlineVertex) → points j ≡ ws → OfDone j k (result_of (drawing j))
      from-two [] q = let n : length (points j) ≡ 0 = ap length q in let m = x.roomy.two in absurd (omega arith)
      from-two (a ∷ []) q = let n : length (points j) ≡ 1 = ap length q in let m = x.roomy.two in absurd (omega arith)
      from-two (a ∷ b ∷ vs) q = of-walk j k a b vs q x f is

-- ---- the claim

pub tells : (j : Job) (k : ℕ) → Claim j k
tells j k = record {
  refused = by-refusal j k;
  only = only_given j.source j.closed j.settings k;
  done = λ r e. by_way j k (way j) (sym (ends j (way j))) r (ap (λ (o : Outcome). o.answer) (ends j (way j)) ∙ e);
}

-- ---- from one layout to the other

-- sources that make the same vertices have the same answer: so a job in columns is explained by asking in rows
pub why_carried : (s t : Lent) (closed : Bool) (σ : Settings) (k : ℕ) → SameSource s t → why_of s closed σ k ≡ why_of t closed σ k
unfolding why_of
why_carried s t closed σ k same = rw (whole_same s t same.whole, same.vertices)
