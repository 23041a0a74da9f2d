-- Calls one after another: what they hand out is what drawing all their vertices hands out, and while none is refused each is done, and the record is that of an open job (`ran`). A record
-- that is no open job hands out nothing (`shut_out`). Assumes nothing.
use mathlib.Core.Path.{◌≡◌, refl, sym, ap, ◌∙◌, subst}
use mathlib.Core.List.{List, [], ◌∷◌, ◌++◌}
use mathlib.Core.Bool.{Bool, true, false, not}
use Prim.Native.Nat.{ℕ, ◌*◌, ◌%◌, ◌≤◌}
use native.Mathlib.Omega.{arith}
use borrow.Author.Tests.{eqb-true, eqb-false, eq-eqb, ne_eqb, le-leb}
use lib.Dec.{eqb}
use lib.ListN.{length}
use lib.Ieee.{Float}
use Rattle.floats.specs.Choice.{when◌give◌else◌}
use Rattle.floats.proofs.Choice.{yes, no, and_no, both_pass}
use Rattle.segments.specs.declared.Corners.{Corners}
use Rattle.segments.specs.declared.Corners.TheVariants.{Round, Pointed}
use Rattle.segments.specs.declared.Settings.{Settings}
use Rattle.segments.specs.declared.PlineVertex.{PlineVertex}
use Rattle.segments.specs.Modes.{round_by, pointed_by}
use Rattle.source.specs.Source.{rows, vertices_of}
use Rattle.source.proofs.Source.{whole_passes}
use Rattle.refusals.proofs.First.{by_test}
use Rattle.moves.specs.Drawing.{nothing}
use Rattle.moves.specs.InnerSteps as M
use Rattle.walk.specs.Walk.{moves_a_segment}
use Rattle.sheet.specs.Buffers.{Buffers}
use Rattle.job.specs.Job.{has_room}
use Rattle.course.specs.declared.Course.{Course}
use Rattle.course.specs.Course.{◌then◌, Drawn, draw_all, none_drawn, end_piece, end_refusal}
use Rattle.course.proofs.Counts as C
use Rattle.course.proofs.Counts.{Counts}
use Rattle.course.proofs.Reached.{then-nothing}
use Rattle.course.proofs.Joined as J
use Rattle.pieces.specs.declared.OpenJob.{OpenJob}
use Rattle.pieces.specs.Calls.{drawing, ended, refused, settings_of, most_number, is_open, was_refused, answering, Called, called, handed_out, staged, shut_answer, ratio_of, mode_of, begun, drawn_call, draw_call, end_call}
use Rattle.pieces.specs.Claim.{Sent, Fits, AllFit, none, more, numbers_of, calls, after, handed, join, AllDone}
use Rattle.pieces.proofs.Handed.{handed_out_lem, handed-none}

-- ---- numbers one after another

-- none is left over of the first
rows_append : (xs ys : List Float) → length xs % 3 ≡ 0 → vertices_of (xs ++ ys) ≡ vertices_of xs ++ vertices_of ys
unfolding vertices_of
rows_append [] ys h = refl
rows_append (x ∷ []) ys h = absurd (omega arith)
rows_append (x ∷ y ∷ []) ys h = absurd (omega arith)
rows_append (x ∷ y ∷ b ∷ xs) ys h = ap (λ (vs : List PlineVertex). record { x = x; y = y; bulge = b } ∷ vs) (rows_append xs ys (omega arith))

-- ---- the record of an open job

pub record Runs (σ : Settings) (j : OpenJob) : Type 0 where
  pub settings : settings_of j ≡ σ
  pub stage : j.stage ≡ drawing
  pub mode : j.pointed ≤ 1
  pub refusal : j.refusal ≡ 0
  pub place : j.place ≡ 0
  pub counts : Counts σ j.course

pub runs_open : (σ : Settings) (j : OpenJob) → Runs σ j → is_open j ≡ true
unfolding is_open
runs_open σ j r =
    let n : j.course.number ≤ most_number (settings_of j) j.course.taken = rw r.settings r.counts.number in
    (both_pass _ _).1 (
      eq-eqb _ _ r.stage,
      (both_pass _ _).1 (
        le-leb _ _ r.mode,
        (both_pass _ _).1 (eq-eqb _ _ r.refusal, (both_pass _ _).1 (eq-eqb _ _ r.place, (both_pass _ _).1 (le-leb _ _ r.counts.taken, le-leb _ _ n))),
      ),
    )

-- at another stage it is none
pub staged-shut : (j : OpenJob) → (j.stage ≡ drawing → ⊥) → is_open j ≡ false
unfolding is_open
staged-shut j h = sym (and_no _ _ (ne_eqb _ _ h) refl)

pub begun-settings : (σ : Settings) (s n : ℕ) → settings_of (begun σ s n) ≡ σ
unfolding settings_of when◌give◌else◌
begun-settings σ s n = by σ.corners
  where
    by : (c : Corners) → (when eqb (mode_of c) 0 give round_by σ.offset σ.eps else pointed_by σ.offset σ.eps (ratio_of c)) ≡ record { offset = σ.offset; eps = σ.eps; corners = c }
    by Round = refl
    by (Pointed ratio) = refl

one_of_two : (c : Corners) → mode_of c ≤ 1
one_of_two Round = omega arith
one_of_two (Pointed ratio) = omega arith

pub begun_runs : (σ : Settings) → Runs σ (begun σ drawing 0)
begun_runs σ = record {
  settings = begun-settings σ drawing 0;
  stage = refl;
  mode = one_of_two σ.corners;
  refusal = refl;
  place = refl;
  counts = record { taken = omega arith; number = omega arith };
}

pub staged_runs : (σ : Settings) (j : OpenJob) (w : Course) → Runs σ j → Counts σ w → Runs σ (staged drawing 0 0 w j)
unfolding settings_of
staged_runs σ j w r c = record { settings = r.settings; stage = refl; mode = r.mode; refusal = refl; place = refl; counts = c }

-- the record of an open job is all of what was asked for and its course
same_record : (σ : Settings) (j : OpenJob) → Runs σ j → j ≡ staged drawing 0 0 j.course j
same_record σ j r = rw (r.stage, r.refusal, r.place)

-- ---- one call

module _ (σ : Settings) (j : OpenJob) (r : Runs σ j) where
  draw-goes : (s : Sent) → Fits σ s → draw_call j s.source s.buffers ≡ drawn_call j (draw_all σ (vertices_of s.source) (none_drawn j.course)) s.buffers
  draw-goes s = subst (λ (τ : Settings). Fits τ s → draw_call j s.source s.buffers ≡ drawn_call j (draw_all τ (vertices_of s.source) (none_drawn j.course)) s.buffers) r.settings by
    where
      by : Fits (settings_of j) s → draw_call j s.source s.buffers ≡ drawn_call j (draw_all (settings_of j) (vertices_of s.source) (none_drawn j.course)) s.buffers
      by f = unfold draw_call in sym (no _ _ _ (ap not (runs_open σ j r)) (no _ _ _ (ap not (whole_passes (rows s.source) f.whole)) (no _ _ _ (ap not f.room) refl)))

  pub end_goes : (last : Buffers) → has_room last 2 ≡ true → end_refusal σ j.course ≡ 0
      → end_call j last ≡ called (answering 0 0 (end_piece σ j.course)) (staged ended 0 0 j.course j) (handed_out (end_piece σ j.course) last)
  end_goes last h =
      subst (λ (τ : Settings). end_refusal τ j.course ≡ 0
      → end_call j last ≡ called (answering 0 0 (end_piece τ j.course)) (staged ended 0 0 j.course j) (handed_out (end_piece τ j.course) last)) r.settings by
    where
      by : end_refusal (settings_of j) j.course ≡ 0
          → end_call j last ≡ called (answering 0 0 (end_piece (settings_of j) j.course)) (staged ended 0 0 j.course j) (handed_out (end_piece (settings_of j) j.course) last)
      by e = unfold end_call in sym (no _ _ _ (ap not (runs_open σ j r)) (no _ _ _ (ap not h) (yes _ _ _ (eq-eqb _ _ e) refl)))

drawn_on_lem : (j : OpenJob) (d : Drawn) (old : Buffers) → d.refusal ≡ 0 → drawn_call j d old ≡ called (answering 0 0 d.piece) (staged drawing 0 0 d.course j) (handed_out d.piece old)
unfolding drawn_call
drawn_on_lem j d old h = sym (yes _ _ _ (eq-eqb _ _ h) refl)

drawn-refused : (j : OpenJob) (d : Drawn) (old : Buffers) → (d.refusal ≡ 0 → ⊥)
    → drawn_call j d old ≡ called (answering d.refusal d.course.taken d.piece) (staged refused d.refusal d.course.taken d.course j) (handed_out d.piece old)
unfolding drawn_call
drawn-refused j d old h = sym (no _ _ _ (ne_eqb _ _ h) refl)

-- ---- calls of a record that is no open job

module _ (j : OpenJob) (shut : is_open j ≡ false) where
  shut_call : (source : List Float) (old : Buffers) → draw_call j source old ≡ called (shut_answer j) j old
  unfolding draw_call
  shut_call source old = sym (yes _ _ _ (ap not shut) refl)

  shut-read : (old : Buffers) → handed (called (shut_answer j) j old) ≡ nothing
  unfolding shut_answer when◌give◌else◌
  shut-read old = by (was_refused j)
    where
      by : (t : Bool) → handed (called (when t give answering j.refusal j.place nothing else answering 9 0 nothing) j old) ≡ nothing
      by true = handed-none _ _ j old
      by false = handed-none _ _ j old

  pub shut_out : (ss : List Sent) → join (calls j ss) ≡ nothing
  unfolding join calls ◌then◌
  shut_out [] = refl
  shut_out (s ∷ ss) = rw (shut_call s.source s.buffers, shut-read s.buffers, shut_out ss)

-- ---- calls one after another

pub record Ran (j : OpenJob) (ss : List Sent) (d : Drawn) : Type 0 where
  pub pieces : join (calls j ss) ≡ d.piece
  pub done : d.refusal ≡ 0 → AllDone (calls j ss)
  pub left : d.refusal ≡ 0 → after j ss ≡ staged drawing 0 0 d.course j

module _ (σ : Settings) where
  -- a call and those after it, by the vertices of both
  both-drawn : (j : OpenJob) (s : Sent) (ss : List Sent) → Fits σ s → let w = j.course in
      draw_all σ (vertices_of (numbers_of (s ∷ ss))) (none_drawn w) ≡ draw_all σ (vertices_of (numbers_of ss)) (draw_all σ (vertices_of s.source) (none_drawn w))
  unfolding numbers_of
  both-drawn j s ss f = rw (rows_append s.source (numbers_of ss) f.whole) (J.grouped σ (vertices_of s.source) (vertices_of (numbers_of ss)) (none_drawn j.course))

  module _ (j : OpenJob) (s : Sent) (ss : List Sent) (d : Drawn) (room : ℕ) (is : draw_call j s.source s.buffers ≡ drawn_call j d s.buffers) (unclosed : d.piece.closed ≡ false)
      (fits : M.Fits room d.piece) (enough : has_room s.buffers room ≡ true) where
    abbrev vs : List PlineVertex
    vs = vertices_of (numbers_of ss)

    -- none of its vertices is refused
    ran_on : d.refusal ≡ 0 → Ran (staged drawing 0 0 d.course j) ss (draw_all σ vs (none_drawn d.course)) → Ran j (s ∷ ss) (draw_all σ vs d)
    unfolding join calls after
    ran_on h r =
        let e = is ∙ drawn_on_lem j d s.buffers h in
        let p = J.piece-apart σ vs d h unclosed in
        record {
          pieces = ap (λ (c : Called). handed c then join (calls c.job ss)) e
              ∙ rw (handed_out_lem d.piece 0 0 (staged drawing 0 0 d.course j) s.buffers room unclosed fits enough, r.pieces) (sym (ap (λ (x : Drawn). x.piece) p));
          done = λ z. subst (λ (c : Called). AllDone (c ∷ calls c.job ss)) (sym e) (AllDone.more refl (r.done (sym (ap (λ (x : Drawn). x.refusal) p) ∙ z)));
          left = λ z.
              ap (λ (c : Called). after c.job ss) e ∙ r.left (sym (ap (λ (x : Drawn). x.refusal) p) ∙ z) ∙ ap (λ (w : Course). staged drawing 0 0 w j) (sym (ap (λ (x : Drawn). x.course) p));
        }

    -- one is
    ran_off : (d.refusal ≡ 0 → ⊥) → Ran j (s ∷ ss) (draw_all σ vs d)
    unfolding join calls
    ran_off h =
        let e = is ∙ drawn-refused j d s.buffers h in
        let k = staged refused d.refusal d.course.taken d.course j in
        rw (J.shut σ vs d h) (record {
          pieces = ap (λ (c : Called). handed c then join (calls c.job ss)) e
              ∙ rw (handed_out_lem d.piece d.refusal d.course.taken k s.buffers room unclosed fits enough, shut_out k (staged-shut k (λ z. omega arith)) ss) (then-nothing d.piece unclosed);
          done = λ z. absurd (h z);
          left = λ z. absurd (h z);
        })

  pub ran : (ss : List Sent) (j : OpenJob) → Runs σ j → AllFit σ ss → Ran j ss (draw_all σ (vertices_of (numbers_of ss)) (none_drawn j.course))
  unfolding numbers_of vertices_of draw_all join calls after
  ran [] j r none = record { pieces = refl; done = λ h. AllDone.none; left = λ h. same_record σ j r }
  ran (s ∷ ss) j r (more f fs) =
      let us = vertices_of s.source in
      let d = draw_all σ us (none_drawn j.course) in
      let room = moves_a_segment σ.corners * length us in
      let is = draw-goes σ j r s f in
      let o = C.all_open σ us (none_drawn j.course) refl in
      let fit = C.all_fit σ us j.course in
      let next = staged_runs σ j d.course r (C.all-counts σ us (none_drawn j.course) r.counts) in
      rw (both-drawn j s ss f)
      (by_test (eqb d.refusal 0) (λ (e : eqb d.refusal 0 ≡ true). ran_on j s ss d room is o fit f.room (eqb-true _ _ e) (ran ss (staged drawing 0 0 d.course j) next fs))
      (λ (e : eqb d.refusal 0 ≡ false). ran_off j s ss d room is o fit f.room (eqb-false _ _ e)))
