-- `first_repeated`: the loop keeps that the search from its place on gives what the search of all tests gives. Assumes nothing.
use mathlib.Core.Path.{◌∙◌}
use native.Mathlib.Omega.{arith}
use Rattle.source.proofs.Segments.{segments-most}
use Rattle.refusals.proofs.First.{first_skip, first_step, first_found, first-end}
use Rattle.refusals.proofs.Segments.{neighbour_test, segment_test, no-more-segments}
use Rattle.refusals.proofs.first_repeated.Goals as goal

pub loop-earlier-init : goal.loop-earlier-init
loop-earlier-init g c =
    let v = c.count-v.ensures in
    let close = c.first_doubtful_pair-earlier.ensures in
    first_skip _ _ (λ k h. neighbour_test _ _ v (rw v c.requires.0) _ k (omega (arith, h, close.0, v)) ∙ close.1 k h)

pub next_place-later-requires : goal.next_place-later-requires
next_place-later-requires g c =
    omega (arith, c.loop-earlier-test.true, c.segment_count-earlier-end.ensures, segments-most c.args.closed c.count-v.result)

pub vertex-requires : goal.vertex-requires
vertex-requires g c =
    omega (arith, c.loop-earlier-test.true, c.segment_count-earlier-end.ensures, segments-most c.args.closed c.count-v.result, c.count-v.ensures)

pub overflow_cast-result : goal.overflow_cast-result
overflow_cast-result g c =
    omega (arith, c.loop-earlier-test.true, c.segment_count-earlier-end.ensures, segments-most c.args.closed c.count-v.result, c.count-v.ensures, c.requires.1)

pub returns-then-repeats : goal.returns-then-repeats
returns-then-repeats g c =
    let v = c.count-v.ensures in
    first_found _ _ (segment_test _ _ v (rw v c.requires.0) _ _ (rw c.segment_count-earlier-end.ensures at c.loop-earlier-test.true) ∙ (cc)) ∙ c.loop-earlier.invariant

pub loop-earlier-preserved : goal.loop-earlier-preserved
loop-earlier-preserved g c =
    let v = c.count-v.ensures in
    first_step _ _ (segment_test _ _ v (rw v c.requires.0) _ _ (rw c.segment_count-earlier-end.ensures at c.loop-earlier-test.true) ∙ (cc)) ∙ c.loop-earlier.invariant

pub returns : goal.returns
returns g c =
    let v = c.count-v.ensures in
    first-end _ _ (no-more-segments _ _ v (rw v c.requires.0) _ _ (rw c.segment_count-earlier-end.ensures at c.loop-earlier-test.false)) ∙ c.loop-earlier.invariant
