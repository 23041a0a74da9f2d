-- `start_and_point` meets its contract. Assumes nothing.
use Rattle.angles.specs.Angle.{angle_of}
use Rattle.meetings.proofs.Starts.{known, unknown}
use Rattle.meetings.proofs.start_and_point.Goals as goal

pub returns-then-seen : goal.returns-then-seen
unfolding angle_of
returns-then-seen c = rw (← known c.args.arc c.if-seen.true) (simp (c.direction_of.ensures, c.sub-p.ensures))

pub returns : goal.returns
unfolding angle_of
returns c = rw (← unknown c.args.arc c.if-seen.false) (simp (c.directions.ensures, c.sub.ensures, c.sub-p.ensures))
