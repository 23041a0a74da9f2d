-- 000's debug assertions as facts about the walk of any job whose numbers are good (Nos. 1 to 3 do not refuse it), in 000's order; the two on nearness are for finite
-- points. The first of the four, that the polyline is empty where its first vertex is added, asks for no fact: here that call makes the pen, and none is there before it.
-- Assumes nothing.
use mathlib.Core.Path.{◌≡◌, refl, sym, ◌∙◌}
use mathlib.Core.List.{List, [], ◌∷◌, ◌++◌, map, append_assoc, Memᴰ}
use mathlib.Core.Bool.{Bool, true, false, not, true≢false}
use Prim.Native.Nat.{ℕ, suc, ◌<◌}
use lib.Ieee.{Float, lt, le, of_bits}
use Rattle.std.specs.Prelude.{None}
use Rattle.floats.specs.Binary64.{zero}
use Rattle.floats.specs.Size.{finite}
use Rattle.floats.proofs.Choice.{both_pass}
use Rattle.floats.proofs.Order.{lt-le_through}
use Rattle.vectors.specs.Plane.{near}
use Rattle.vectors.specs.declared.Vector2.{Vector2}
use Rattle.segments.specs.declared.RawOffsetSeg.{RawOffsetSeg}
use Rattle.joins.specs.declared.JoinBoundary.{JoinBoundary}
use Rattle.source.specs.Source.{vertices_in}
use Rattle.refusals.specs.Limits.{least_eps, most_eps, inside, good_vertex, good_offset, good_eps, good_corners, number_tests, first_from}
use Rattle.refusals.proofs.First.{by_test}
use Rattle.refusals.proofs.Bad.{passes, not_fails}
use Rattle.refusals.proofs.NumberRow.{number_nowhere}
use Rattle.moves.specs.declared.Move.{Move}
use Rattle.moves.specs.Moves as M
use Rattle.moves.specs.Drawing.{Drawing, kept, last_point}
use Rattle.moves.specs.Sound.{segment_count}
use Rattle.moves.proofs.Near.{near-finite}
use Rattle.moves.proofs.Drawn.{emitted_end}
use Rattle.moves.specs.Made.{span_move, connector_move, connector_moves}
use Rattle.walk.specs.Walk.{walk_drawing}
use Rattle.job.specs.Rows.{Job, Numbers}
use Rattle.job.specs.Demand3.{WalkOf}
use Rattle.job.proofs.Demand3.{walk-sound}

-- ---- where the numbers are good, ε is above zero

one_fails : (k : ℕ) (bs : List Bool) (b : Bool) (cs : List Bool) → first_from k (bs ++ b ∷ cs) ≡ None → b ≡ false
unfolding first_from
one_fails k [] true cs h = let z : true ≡ false = cc in cc
one_fails k [] false cs h = refl
one_fails k (true ∷ bs) b cs h = let z : true ≡ false = cc in cc
one_fails k (false ∷ bs) b cs h = one_fails (suc k) bs b cs h

eps-above : (ε : Float) → good_eps ε ≡ true → lt zero ε ≡ true
unfolding good_eps inside lt of_bits
eps-above ε h = (passes (lt zero ε)).1 (lt-le_through zero least_eps ε tt ((passes (le least_eps ε)).0 ((both_pass (le least_eps ε) (le ε most_eps)).0 h).0))

module _ (j : Job) (numbers : Numbers j) where
  pub above : lt zero j.settings.eps ≡ true
  unfolding number_tests
  above =
      let good = good_eps j.settings.eps in
      let bad = map (λ v. not (good_vertex v)) (vertices_in j.source) in
      let offset = not (good_offset j.settings.offset) ∷ [] in
      let n = (number_nowhere (vertices_in j.source) j.settings).1 numbers.good in
      let after = not (good_corners j.settings.corners) ∷ [] in
      let f : not good ≡ false = one_fails 0 (bad ++ offset) (not good) after (rw (append_assoc bad offset (not good ∷ after)) n) in
      eps-above j.settings.eps (by_test good (λ t. t) (λ t. absurd (true≢false (sym ((not_fails good).1 t) ∙ f))))

  module _ (p : Vector2) (ms : List Move) (walk : WalkOf j p ms) where
    -- ---- emit_source_span: the last vertex is near the span's start, which is the walk's start for the first span, and else where the connector before it ended

    pub first-span-start : finite p.x ≡ true → finite p.y ≡ true → near (last_point p (kept j.settings.eps p [])) p j.settings.eps ≡ true
    unfolding M.kept M.last_point
    first-span-start h k = near-finite p j.settings.eps h k above

    pub span-start : (before after : List Move) (i : ℕ) (b : JoinBoundary) → ms ≡ before ++ connector_move i b ∷ after
        → finite b.next_start.x ≡ true → finite b.next_start.y ≡ true
        → near (last_point p (kept j.settings.eps p (before ++ connector_move i b ∷ []))) b.next_start j.settings.eps ≡ true
    unfolding connector_move
    span-start before after i b is h k = emitted_end j.settings.eps p before (connector_move i b) h k above

    -- ---- emit_join: the last vertex is near the join's current end, where the span before it ended

    pub join-start : (before after : List Move) (i : ℕ) (g : RawOffsetSeg) (t : Float) (b : JoinBoundary)
        → ms ≡ before ++ span_move i g t b.current_end b.current_param ∷ connector_moves i b ++ after
        → finite b.current_end.x ≡ true → finite b.current_end.y ≡ true
        → near (last_point p (kept j.settings.eps p (before ++ span_move i g t b.current_end b.current_param ∷ []))) b.current_end j.settings.eps ≡ true
    unfolding span_move
    join-start before after i g t b is h k = emitted_end j.settings.eps p before (span_move i g t b.current_end b.current_param) h k above

    -- ---- finish: each index is below the segment count

    pub index_below : (d : Drawing) → d ≡ walk_drawing j.closed j.settings walk.a walk.b walk.others → (i : ℕ) → Memᴰ i d.indexes → i < segment_count d
    index_below d is i m = rw is ((walk-sound j.settings walk.a walk.b walk.others j.closed).below i (rw is at m))
