-- `meetings::meeting_point` meets its contract. Assumes nothing.
use mathlib.Core.Path.{refl}
use Rattle.floats.proofs.Choice.{yes, no}
use Rattle.meetings.specs.Meetings.{meeting_point}
use Rattle.meetings.proofs.meeting_point.Goals as goal

pub returns-then-seg1_t : goal.returns-then-seg1_t
unfolding meeting_point
returns-then-seg1_t c = yes _ _ _ c.if-seg1_t.true refl

pub returns-then-seg1_t-2 : goal.returns-then-seg1_t-2
unfolding meeting_point
returns-then-seg1_t-2 c = no _ _ _ c.if-seg1_t.false (yes _ _ _ c.if-seg1_t-2.true refl)

pub returns-then-seg2_t : goal.returns-then-seg2_t
unfolding meeting_point
returns-then-seg2_t c = no _ _ _ c.if-seg1_t.false (no _ _ _ c.if-seg1_t-2.false (yes _ _ _ c.if-seg2_t.true refl))

pub returns-then-seg2_t-2 : goal.returns-then-seg2_t-2
unfolding meeting_point
returns-then-seg2_t-2 c = no _ _ _ c.if-seg1_t.false (no _ _ _ c.if-seg1_t-2.false (no _ _ _ c.if-seg2_t.false (yes _ _ _ c.if-seg2_t-2.true refl)))

pub returns : goal.returns
unfolding meeting_point
returns c = no _ _ _ c.if-seg1_t.false (no _ _ _ c.if-seg1_t-2.false (no _ _ _ c.if-seg2_t.false (no _ _ _ c.if-seg2_t-2.false c.point_from_parametric.ensures)))
