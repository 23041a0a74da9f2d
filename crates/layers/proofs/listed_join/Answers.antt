-- `layers::listed_join` meets its contract. Assumes nothing.
use Prim.Native.Nat.{◌≤◌}
use native.Mathlib.Omega.{arith}
use Rattle.std.specs.Prelude.{Option, Some, None}
use Rattle.meetings.specs.declared.ArcRule.{ArcRule}
use Rattle.meetings.specs.declared.ArcRule.TheVariants as Rule
use Rattle.meetings.specs.Rules.{rule_number}
use Rattle.joins.specs.declared.JoinCause.{JoinCause}
use Rattle.joins.specs.declared.JoinCause.TheVariants as Cause
use Rattle.layers.specs.InnerSteps.{cause_number}
use Rattle.layers.proofs.listed_join.Goals as goal

cause-small : (c : JoinCause) → cause_number c ≤ 9
cause-small Cause.Coincident = omega arith
cause-small Cause.Met = omega arith
cause-small Cause.OuterTurn = omega arith
cause-small Cause.Reversal = omega arith
cause-small Cause.CollapsedSide = omega arith
cause-small Cause.NoMeeting = omega arith
cause-small Cause.CandidatesMissed = omega arith
cause-small Cause.ZeroTangent = omega arith
cause-small Cause.SameDirection = omega arith
cause-small Cause.OuterPoint = omega arith

rule-small : (r : Option ArcRule) → rule_number r ≤ 4
rule-small None = omega arith
rule-small (Some Rule.StartMatched) = omega arith
rule-small (Some Rule.EndMatched) = omega arith
rule-small (Some Rule.Inside) = omega arith
rule-small (Some Rule.PastEnd) = omega arith

pub overflow_mul-result : goal.overflow_mul-result
overflow_mul-result c = omega (arith, cause-small c.args.boundary.cause, c.cause_number.ensures)

pub overflow_mul-result-2 : goal.overflow_mul-result-2
overflow_mul-result-2 c = omega (arith, rule-small c.args.boundary.current_rule, c.rule_number.ensures)

pub overflow_add-result : goal.overflow_add-result
overflow_add-result c =
    let j = c.args.boundary in
    omega (arith, cause-small j.cause, rule-small j.current_rule, c.cause_number.ensures, c.rule_number.ensures)

pub overflow_add-result-2 : goal.overflow_add-result-2
overflow_add-result-2 c =
    let j = c.args.boundary in
    omega (
      arith,
      cause-small j.cause,
      rule-small j.current_rule,
      rule-small j.next_rule,
      c.cause_number.ensures,
      c.rule_number.ensures,
      c.rule_number-2.ensures,
    )

pub returns : goal.returns
returns c = simp (c.cause_number.ensures, c.rule_number.ensures, c.rule_number-2.ensures)
