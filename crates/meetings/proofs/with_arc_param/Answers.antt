-- `meetings::with_arc_param` meets its contract. Assumes nothing.
use Rattle.meetings.specs.Params.{usable_arc_param}
use Rattle.meetings.specs.InnerSteps.{arc_param_at}
use Rattle.meetings.proofs.Starts.{remembered}
use Rattle.meetings.proofs.with_arc_param.Goals as goal

pub arc_param_at-granted-requires : goal.arc_param_at-granted-requires
arc_param_at-granted-requires c = record {
  start_angle_value = rw c.start_and_point.ensures;
  off_ends = c.requires;
}

pub returns : goal.returns
unfolding usable_arc_param arc_param_at
returns c =
    record {
      met = simp (c.met_where.ensures, c.rule.ensures, c.param.ensures, c.arc_param_at-granted.ensures, c.start_and_point.ensures);
      seen = remembered c.args.arc (rw c.start_and_point.ensures);
    }
