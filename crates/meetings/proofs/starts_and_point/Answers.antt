-- `starts_and_point` meets its contract. Assumes nothing.
use Rattle.angles.specs.Angle.{angle_of}
use Rattle.meetings.proofs.Starts.{known, unknown}
use Rattle.meetings.proofs.starts_and_point.Goals as goal

pub returns-then-after : goal.returns-then-after
unfolding angle_of
returns-then-after c = rw (← known c.args.next c.if-after.true) (simp (c.direction_of.ensures, c.start_and_point.ensures, c.sub-q.ensures))

pub returns-then-seen : goal.returns-then-seen
unfolding angle_of
returns-then-seen c =
    let a = c.args in
    rw (← unknown a.next c.if-after.false, ← known a.current c.if-seen.true)
    (simp (c.directions.ensures, c.sub-t.ensures, c.sub-p.ensures, c.sub-q.ensures))

pub returns : goal.returns
unfolding angle_of
returns c =
    let a = c.args in
    rw (← unknown a.next c.if-after.false, ← unknown a.current c.if-seen.false)
    (simp (c.directions-2.ensures, c.sub.ensures, c.sub-t.ensures, c.sub-p.ensures, c.sub-q.ensures))
