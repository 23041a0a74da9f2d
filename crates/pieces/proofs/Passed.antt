-- What an accepted open job is: its settings are good, its vertices are such that none is refused where they are drawn, and its output is the drawing of all (`passed`). Assumes nothing.
use mathlib.Core.Path.{◌≡◌, refl, sym, ap, ◌∙◌}
use mathlib.Core.List.{List, [], ◌∷◌, ◌++◌}
use mathlib.Core.Bool.{Bool, true, false, true≢false}
use Prim.Native.Nat.{ℕ, suc, ◌-◌, ◌≤◌}
use native.Mathlib.Omega.{arith}
use borrow.Author.Tests.{not-false}
use lib.ListN.{length, length-append, length-replicate}
use lib.Ieee.{eq}
use Rattle.floats.specs.Binary64.{zero}
use Rattle.floats.specs.Choice.{when◌give◌else◌, ◌and◌}
use Rattle.floats.proofs.Choice.{both_pass}
use Rattle.floats.proofs.Order.{fails}
use Rattle.vectors.specs.declared.Vector2.{Vector2}
use Rattle.segments.specs.declared.Settings.{Settings}
use Rattle.segments.specs.declared.PlineVertex.{PlineVertex}
use Rattle.source.specs.Source.{segments_of, around}
use Rattle.source.proofs.Segments.{segments_open, segments-none}
use Rattle.std.specs.Prelude.{None}
use Rattle.refusals.specs.Limits.{good_vertex, good_offset, good_eps, good_corners, number_tests, repeats, neighbour_tests, repeat_tests, first_from, first_of}
use Rattle.refusals.proofs.NumberRow.{number_nowhere}
use Rattle.refusals.proofs.RepeatedRow.{repeated_nowhere}
use Rattle.refusals.proofs.Bad.{passes}
use Rattle.moves.specs.declared.Move.{Move}
use Rattle.moves.specs.Drawing.{Drawing, nothing, drawn_open, all_finite}
use Rattle.moves.proofs.Lists.{length-flags_of, length-origins_of}
use Rattle.moves.proofs.Shapes.{open_none, open_some, length_ray}
use Rattle.walk.specs.Walk.{walk_drawing, lone_collapsed, drawing_of, copied}
use Rattle.walk.proofs.Lengths.{open_drawing}
use Rattle.walk.proofs.Origins.{length_spans}
use Rattle.job.specs.Verdict.{drawn}
use Rattle.job.specs.Job.{Outcome, result_in, placed}
use Rattle.refusals.specs.Table.{number}
use Rattle.job.specs.Rows.{Job, outcome, count, fit, places, Numbers}
use Rattle.job.proofs.Ways.{points, Way, ragged, many, bad, few, tight, copy, repeated, endless, whole, leads_to, way, ends}
use Rattle.course.specs.Joined.{drawn_whole}
use Rattle.course.proofs.Reached.{whole-few, whole-copied, whole-drawn}
use Rattle.course.proofs.Joined.{Accepts}
use Rattle.pieces.specs.Claim.{first, output}
use Rattle.pieces.proofs.Handed.{shown_read}

-- ---- tests of which none holds

test_fails : (k : ℕ) (b : Bool) (bs : List Bool) → first_from k (b ∷ bs) ≡ None → (b ≡ false) × (first_from (suc k) bs ≡ None)
unfolding first_from
test_fails k true bs h = let z : ◌≡◌ {A = ℕ} 0 1 = cc in absurd (omega arith)
test_fails k false bs h = (refl, h)

module _ (σ : Settings) where
  good-vertex : (k : ℕ) (us : List PlineVertex) (c : PlineVertex) (ws : List PlineVertex) → first_from k (number_tests (us ++ c ∷ ws) σ) ≡ None → good_vertex c ≡ true
  unfolding number_tests
  good-vertex k [] c ws h = not-false _ (test_fails k _ _ h).0
  good-vertex k (u ∷ us) c ws h = good-vertex (suc k) us c ws (test_fails k _ _ h).1

  good-settings : (k : ℕ) (vs : List PlineVertex) → first_from k (number_tests vs σ) ≡ None → (good_offset σ.offset and (good_eps σ.eps and good_corners σ.corners)) ≡ true
  unfolding number_tests
  good-settings k [] h =
      let o = test_fails k _ _ h in
      let e = test_fails (suc k) _ _ o.1 in
      let c = test_fails (suc (suc k)) _ _ e.1 in
      (both_pass _ _).1 (not-false _ o.0, (both_pass _ _).1 (not-false _ e.0, not-false _ c.0))
  good-settings k (v ∷ vs) h = good-settings (suc k) vs (test_fails k _ _ h).1

apart-pair : (k : ℕ) (us : List PlineVertex) (a b : PlineVertex) (ws : List PlineVertex) → first_from k (neighbour_tests (us ++ a ∷ b ∷ ws)) ≡ None → repeats a b ≡ false
unfolding neighbour_tests
apart-pair k [] a b ws h = (test_fails k _ _ h).0
apart-pair k (u ∷ []) a b ws h = apart-pair (suc k) [] a b ws (test_fails k _ _ h).1
apart-pair k (u ∷ v ∷ us) a b ws h = apart-pair (suc k) (v ∷ us) a b ws (test_fails k _ _ h).1

-- ---- the drawing of an open source

pub record Plain (d : Drawing) : Type 0 where
  pub unclosed : d.closed ≡ false
  pub flags : length d.vertices - 1 ≡ length d.flags
  pub origins : length d.origins ≡ length d.flags

nothing_plain : Plain nothing
nothing_plain = record { unclosed = refl; flags = refl; origins = refl }

copied_plain : (vs : List PlineVertex) → 2 ≤ length vs → Plain (copied false vs)
unfolding copied
copied_plain vs h =
    let n = segments_open (length vs) h in
    let f = length-replicate {A = ℕ} (segments_of false (length vs)) 0 in
    let o = length_spans 0 (segments_of false (length vs)) in
    record { unclosed = refl; flags = omega arith; origins = omega arith }

open_plain : (p : Vector2) (ks : List Move) → Plain (drawn_open p ks)
open_plain p [] = rw (open_none p [] refl) nothing_plain
open_plain p (k ∷ ks) =
    let f = length-flags_of (k ∷ ks) in
    let o = length-origins_of (k ∷ ks) in
    let v = length_ray p (k ∷ ks) in
    rw (open_some p (k ∷ ks) (λ h. omega arith)) (record { unclosed = refl; flags = omega arith; origins = omega arith })

drawn_plain : (σ : Settings) (vs : List PlineVertex) → Plain (drawing_of false σ vs)
unfolding drawing_of when◌give◌else◌
drawn_plain σ [] = nothing_plain
drawn_plain σ (a ∷ []) = nothing_plain
drawn_plain σ (a ∷ b ∷ vs) = by (lone_collapsed false σ (a ∷ b ∷ vs))
  where
    by : (t : Bool) → Plain (when t give nothing else walk_drawing false σ a b vs)
    by true = nothing_plain
    by false = rw (open_drawing σ a b vs) (open_plain _ _)

-- ---- the output of a job that ends by a drawing

output-is : (j : Job) (d : Drawing) → Plain d → places j ≤ fit j → placed (places j) (drawn d) j.buffers ≡ outcome j → output j ≡ d
unfolding output
output-is j d p h e =
    ap (λ (o : Outcome). let r = result_in o.answer in first r.vertices (r.vertices - 1) r.indexes o.buffers) (sym e)
    ∙ shown_read d p.unclosed p.origins (places j) j.buffers (length d.vertices - 1) h p.flags

-- ---- an accepted job

pub record Passed (j : Job) : Type 0 where
  pub settings : (good_offset j.settings.offset and (good_eps j.settings.eps and good_corners j.settings.corners)) ≡ true
  pub accepts : Accepts j.settings (points j)
  pub output : output j ≡ drawn_whole j.settings (points j)

module _ (j : Job) (unclosed : j.closed ≡ false) where
  abbrev σ : Settings
  σ = j.settings

  -- of good numbers, where nothing repeats and the drawing is finite
  passed_by : (d : Drawing) → Numbers j
      → (eq σ.offset zero ≡ false → (us : List PlineVertex) (a b : PlineVertex) (ws : List PlineVertex) → us ++ a ∷ b ∷ ws ≡ points j → repeats a b ≡ false)
      → drawn_whole σ (points j) ≡ d → (eq σ.offset zero ≡ false → all_finite d.vertices ≡ true) → Plain d → places j ≤ fit j → placed (places j) (drawn d) j.buffers ≡ outcome j
      → Passed j
  passed_by d n apart is finite p room e =
      let tests = (number_nowhere (points j) σ).1 n.good in
      record {
        settings = good-settings σ 0 (points j) tests;
        accepts = record {
          few = n.countable.few;
          good = λ us c ws q. good-vertex σ 0 us c ws (ap (λ (vs : List PlineVertex). first_of (number_tests vs σ)) q ∙ tests);
          apart = apart;
          finite = λ z. ap (λ (x : Drawing). all_finite x.vertices) is ∙ finite z;
        };
        output = output-is j d p room e ∙ sym is;
      }

  by_way : (w : Way j) → number (leads_to j w).answer ≡ 0 → Passed j
  by_way (ragged r) h = absurd (omega arith)
  by_way (many r) h = absurd (omega arith)
  by_way (bad k r) h = absurd (omega arith)
  by_way (few n l) h =
      passed_by nothing n (λ z us a b ws q. absurd (omega (arith, ap length q, length-append us (a ∷ b ∷ ws)))) (whole-few σ (points j) l) (λ z. unfold all_finite in refl) nothing_plain
      (rw (segments-none j.closed (count j) l) (omega arith)) (ends j (few n l))
  by_way (tight r) h = absurd (omega arith)
  by_way (copy r t) h =
      let z = (passes (eq σ.offset zero)).1 t in
      passed_by (copied false (points j)) r.numbers (λ y us a b ws q. absurd (true≢false (sym z ∙ y))) (whole-copied σ (points j) z r.two) (λ y. absurd (true≢false (sym z ∙ y)))
      (copied_plain (points j) r.two) r.vertices (ap (λ (c : Bool). placed (places j) (drawn (copied c (points j))) j.buffers) (sym unclosed) ∙ ends j (copy r t))
  by_way (repeated k r) h = absurd (omega arith)
  by_way (endless r) h = absurd (omega arith)
  by_way (whole d f) h =
      let r = d.roomy in
      let tests = ap (λ (c : Bool). first_of (repeat_tests c (points j))) (sym unclosed) ∙ (repeated_nowhere (points j) j.closed).1 d.distinct in
      passed_by (drawing_of false σ (points j)) r.numbers (λ z us a b ws q. unrepeated us a b ws q tests) (whole-drawn σ (points j) (fails _ d.nonzero) r.two)
      (λ z. ap (λ (c : Bool). all_finite (drawing_of c σ (points j)).vertices) (sym unclosed) ∙ f) (drawn_plain σ (points j)) r.vertices
      (ap (λ (c : Bool). placed (places j) (drawn (drawing_of c σ (points j))) j.buffers) (sym unclosed) ∙ ends j (whole d f))
    where
      unrepeated : (us : List PlineVertex) (a b : PlineVertex) (ws : List PlineVertex) → us ++ a ∷ b ∷ ws ≡ points j → first_of (repeat_tests false (points j)) ≡ None → repeats a b ≡ false
      unrepeated us a b ws q h = unfold repeat_tests around when◌give◌else◌ in apart-pair 0 us a b ws (ap (λ (vs : List PlineVertex). first_of (neighbour_tests vs)) q ∙ h)

  pub passed : number (outcome j).answer ≡ 0 → Passed j
  passed h = by_way (way j) (ap (λ (o : Outcome). number o.answer) (ends j (way j)) ∙ h)
