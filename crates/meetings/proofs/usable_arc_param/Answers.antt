-- `meetings::usable_arc_param` meets its contract. Assumes nothing.
use mathlib.Core.Bool.{false≢true}
use Rattle.meetings.specs.Params.{usable_arc_param}
use Rattle.meetings.specs.InnerSteps.{arc_param_at}
use Rattle.meetings.proofs.usable_arc_param.Goals as goal

pub arc_param_at-requires : goal.arc_param_at-requires
unfolding usable_arc_param arc_param_at
arc_param_at-requires c = record {
  start_angle_value = rw c.start_and_point.ensures;
  off_ends = λ h. absurd (false≢true h);
}

pub returns : goal.returns
unfolding usable_arc_param arc_param_at
returns c = simp (c.arc_param_at.ensures, c.start_and_point.ensures)
