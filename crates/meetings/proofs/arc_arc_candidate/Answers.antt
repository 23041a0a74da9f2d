-- `meetings::arc_arc_candidate` meets its contract. Assumes nothing.
use Rattle.meetings.specs.Params.{usable_arc_param}
use Rattle.meetings.specs.Meetings.{arc_arc_candidate}
use Rattle.meetings.specs.InnerSteps.{arc_param_at}
use Rattle.meetings.proofs.Ruled.{ruled_where}
use Rattle.meetings.proofs.Starts.{remembered}
use Rattle.meetings.proofs.arc_arc_candidate.Goals as goal

pub arc_param_at-on_current-requires : goal.arc_param_at-on_current-requires
arc_param_at-on_current-requires c = record {
  start_angle_value = rw c.starts_and_point.ensures;
  off_ends = λ apart. (c.arc_arc_point-snapped.ensures.off_ends apart).0;
}

pub arc_param_at-on_next-requires : goal.arc_param_at-on_next-requires
arc_param_at-on_next-requires c = record {
  start_angle_value = rw c.starts_and_point.ensures;
  off_ends = λ apart. (c.arc_arc_point-snapped.ensures.off_ends apart).1;
}

pub returns : goal.returns
unfolding arc_arc_candidate usable_arc_param arc_param_at
returns c =
    let next = c.before.before.before in
    let current = next.before.before.before in
    let s = current.before in
    record {
      met = rw (ruled_where) (simp (
        c.met_where-met.ensures,
        c.rule-next_rule.ensures,
        c.param-t.ensures,
        next.arc_param_at-on_next.ensures,
        next.rule-current_rule.ensures,
        next.param-s.ensures,
        current.arc_param_at-on_current.ensures,
        s.starts_and_point.ensures,
        s.before.before.arc_arc_point-snapped.ensures.point_value,
      ));
      seen = remembered s.before.before.before.args.next (rw s.starts_and_point.ensures);
    }
