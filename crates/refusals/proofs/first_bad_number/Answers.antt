-- `first_bad_number`: the loop keeps that the search from its place on gives what the search of all tests gives. Assumes nothing.
use mathlib.Core.Path.{◌≡◌, ◌∙◌, ap, sym}
use mathlib.Core.Bool.{not}
use Prim.Native.Nat.{◌+◌}
use native.Mathlib.Omega.{arith}
use borrow.Author.Rules.{rules}
use Rattle.std.specs.Prelude.{Some}
use Rattle.refusals.proofs.First.{first_skip, first_step, first_found, first-end}
use Rattle.refusals.proofs.Numbers.{vertex_test, offset_test, eps_test, ratio_test, no-more_tests}
use Rattle.refusals.proofs.first_bad_number.Goals as goal

pub loop-k-init : goal.loop-k-init
loop-k-init g c =
    let n = c.first_doubtful-k.ensures in
    let v = c.count-v.ensures in
    first_skip _ _ (λ k h. vertex_test _ _ _ v k (omega (arith, h, n.0, v)) ∙ ap not (n.1 k h))

pub returns-then-not-good_vertex : goal.returns-then-not-good_vertex
returns-then-not-good_vertex g c =
    first_found _ _ (vertex_test _ _ _ c.count-v.ensures _ c.loop-k-test.true ∙ (cc)) ∙ c.loop-k.invariant

pub loop-k-preserved : goal.loop-k-preserved
loop-k-preserved g c =
    first_step _ _ (vertex_test _ _ _ c.count-v.ensures _ c.loop-k-test.true ∙ (cc)) ∙ c.loop-k.invariant

pub returns-then-not-good_offset : goal.returns-then-not-good_offset
returns-then-not-good_offset g c =
    let ended : c.loop-k.k ≡ c.count-v.result = omega arith in
    first_found _ _ (offset_test _ _ _ c.count-v.ensures ∙ (cc)) ∙ rw ended at c.loop-k.invariant

pub returns-then-not-good_eps : goal.returns-then-not-good_eps
returns-then-not-good_eps g c =
    let ended : c.loop-k.k ≡ c.count-v.result = omega arith in
    first_found _ _ (eps_test _ _ _ c.count-v.ensures ∙ (cc))
    ∙ first_step _ _ (offset_test _ _ _ c.count-v.ensures ∙ (cc))
    ∙ rw ended at c.loop-k.invariant

pub returns-then-not-good_corners : goal.returns-then-not-good_corners
returns-then-not-good_corners g c =
    let ended : c.loop-k.k ≡ c.count-v.result = omega arith in
    let two : c.count-v.result + 2 ≡ c.count-v.result + 1 + 1 = omega arith in
    ap Some two
    ∙ first_found _ _ (ratio_test _ _ _ c.count-v.ensures ∙ ap not (sym c.good_corners.ensures) ∙ c.if-not-good_corners.true-raw)
    ∙ first_step _ _ (eps_test _ _ _ c.count-v.ensures ∙ search rules)
    ∙ first_step _ _ (offset_test _ _ _ c.count-v.ensures ∙ (cc))
    ∙ rw ended at c.loop-k.invariant

pub returns : goal.returns
returns g c =
    let ended : c.loop-k.k ≡ c.count-v.result = omega arith in
    first-end _ _ (no-more_tests _ _ _ c.count-v.ensures)
    ∙ first_step _ _ (ratio_test _ _ _ c.count-v.ensures ∙ (cc))
    ∙ first_step _ _ (eps_test _ _ _ c.count-v.ensures ∙ (cc))
    ∙ first_step _ _ (offset_test _ _ _ c.count-v.ensures ∙ (cc))
    ∙ rw ended at c.loop-k.invariant
