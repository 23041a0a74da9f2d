-- `arc_line_meeting` meets its contract. Assumes nothing.
use mathlib.Core.Path.{refl}
use borrow.Author.Rules.{rules}
use Rattle.meetings.specs.Meetings.{arc_line_meeting}
use Rattle.meetings.proofs.Ruled.{ruled-exchanged}
use Rattle.meetings.proofs.arc_line_meeting.Goals as goal

pub line_circle_meeting-shown-requires : goal.line_circle_meeting-shown-requires
line_circle_meeting-shown-requires c = (refl, refl, refl)

pub returns-in_err-meeting : goal.returns-in_err-meeting
unfolding arc_line_meeting
returns-in_err-meeting c = rw (← ruled-exchanged, ← c.line_circle_meeting-shown.ensures.met, c.in_err-meeting.was) (search rules)

pub returns : goal.returns
unfolding arc_line_meeting
returns c = rw (← ruled-exchanged, ← c.line_circle_meeting-shown.ensures.met, c.in_ok-meeting.was) refl
