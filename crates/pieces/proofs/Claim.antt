-- The law of 02's 2026-05: the joined pieces of an open job that the whole form accepts are its output, in whatever groups its vertices are sent (`law`); and what any job has handed out is the
-- beginning of what the rules draw of the vertices sent (`begins`). Assumes nothing.
use mathlib.Core.Path.{◌≡◌, refl, sym, ap, ◌∙◌, subst}
use mathlib.Core.Bool.{true, false}
use native.Mathlib.Omega.{arith}
use Rattle.floats.specs.Choice.{◌and◌}
use Rattle.floats.proofs.Choice.{yes, no}
use Rattle.segments.specs.declared.Settings.{Settings}
use Rattle.source.specs.Source.{vertices_of, vertices_in}
use Rattle.refusals.specs.Limits.{good_offset, good_eps, good_corners}
use Rattle.refusals.proofs.First.{by_test}
use Rattle.moves.specs.Drawing.{nothing}
use Rattle.course.specs.Course.{◌then◌, end_piece}
use Rattle.course.specs.Joined.{drawn_whole, Beginning}
use Rattle.course.proofs.Counts.{end_fits, end_open}
use Rattle.course.proofs.Reached.{nothing_begins}
use Rattle.course.proofs.Joined.{drawn_all, pieces_whole, pieces-begin, counted, Accepts, accepted-goes}
use Rattle.pieces.specs.declared.OpenJob.{OpenJob}
use Rattle.pieces.specs.Calls.{drawing, ended, refused, answering, Called, staged, begun, Started, started, start_call, end_call}
use Rattle.pieces.specs.Claim.{numbers_of, calls, after, handed, join, AllDone, begun_by, Law, Begins}
use Rattle.pieces.proofs.Handed.{handed_out_lem}
use Rattle.pieces.proofs.Runs.{begun_runs, staged_runs, staged-shut, end_goes, shut_out, ran}
use Rattle.pieces.proofs.Passed.{passed}

-- ---- the start

module _ (σ : Settings) where
  start-good : (good_offset σ.offset and (good_eps σ.eps and good_corners σ.corners)) ≡ true → start_call σ ≡ started (answering 0 0 nothing) (begun σ drawing 0)
  unfolding start_call
  start-good h = sym (yes _ _ _ h refl)

  start-bad : (good_offset σ.offset and (good_eps σ.eps and good_corners σ.corners)) ≡ false → start_call σ ≡ started (answering 3 0 nothing) (begun σ refused 3)
  unfolding start_call
  start-bad h = sym (no _ _ _ h refl)

-- ---- the law

pub law : Law
law j ss last unclosed done sent fits room =
    let σ = j.settings in
    let vs = vertices_of (numbers_of ss) in
    let d = drawn_all σ vs in
    let p = passed j unclosed done in
    let here : vertices_in j.source ≡ vs = ap vertices_in sent in
    let start = start-good σ p.settings in
    let goes = accepted-goes σ vs (subst (Accepts σ) here p.accepts) in
    let r = ran σ ss (begun σ drawing 0) (begun_runs σ) fits in
    let g : OpenJob = staged drawing 0 0 d.course (begun σ drawing 0) in
    let end = end_goes σ g (staged_runs σ (begun σ drawing 0) d.course (begun_runs σ) (counted σ vs)) last room goes.1 in
    let e = ap (λ (s : Started). s.job) start in
    let ends : end_call (after (begun_by σ) ss) last ≡ _ = ap (λ (k : OpenJob). end_call (after k ss) last) e ∙ ap (λ (k : OpenJob). end_call k last) (r.left goes.0) ∙ end in
    record {
      started = ap (λ (s : Started). s.answer.number) start;
      done = subst (λ (k : OpenJob). AllDone (calls k ss)) (sym e) (r.done goes.0);
      ended = ap (λ (c : Called). c.answer.number) ends;
      pieces = ap (λ (k : OpenJob). join (calls k ss) then handed (end_call (after (begun_by σ) ss) last)) e
          ∙ rw (r.pieces, ends, handed_out_lem (end_piece σ d.course) 0 0 (staged ended 0 0 d.course g) last 2 (end_open σ d.course) (end_fits σ d.course) room)
          (pieces_whole σ vs goes.0 ∙ sym (p.output ∙ ap (drawn_whole σ) here));
    }

pub begins : Begins
begins σ ss fits =
    let good = good_offset σ.offset and (good_eps σ.eps and good_corners σ.corners) in
    let vs = vertices_of (numbers_of ss) in
    by_test good
    (λ (h : good ≡ true).
    subst (λ (k : OpenJob). Beginning (join (calls k ss)) (drawn_whole σ vs)) (sym (ap (λ (s : Started). s.job) (start-good σ h)))
    (rw (ran σ ss (begun σ drawing 0) (begun_runs σ) fits).pieces (pieces-begin σ vs)))
    (λ (h : good ≡ false).
    subst (λ (k : OpenJob). Beginning (join (calls k ss)) (drawn_whole σ vs)) (sym (ap (λ (s : Started). s.job) (start-bad σ h)))
    (rw (shut_out (begun σ refused 3) (staged-shut (begun σ refused 3) (λ z. omega arith)) ss) (nothing_begins (drawn_whole σ vs))))
