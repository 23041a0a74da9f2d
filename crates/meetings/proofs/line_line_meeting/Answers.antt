-- `meetings::line_line_meeting` meets its contract. Assumes nothing.
use mathlib.Core.Path.{refl}
use borrow.Author.Rules.{rules}
use Rattle.meetings.specs.Meetings.{line_line_meeting}
use Rattle.meetings.specs.Rules.{ruled}
use Rattle.meetings.proofs.Ruled.{overlap_ruled}
use Rattle.meetings.proofs.line_line_meeting.Goals as goal

pub enum_told-1 : goal.enum_told-1
unfolding line_line_meeting ruled
enum_told-1 c = search rules

pub enum_known-intr : goal.enum_known-intr
unfolding line_line_meeting ruled
enum_known-intr c = search rules

pub enum_told-in-FalseIntersect : goal.enum_told-in-FalseIntersect
unfolding line_line_meeting ruled
enum_told-in-FalseIntersect c = search rules

pub enum_told-in-Overlapping : goal.enum_told-in-Overlapping
unfolding line_line_meeting ruled
enum_told-in-Overlapping c = search rules

pub returns-in-NoIntersect : goal.returns-in-NoIntersect
unfolding line_line_meeting ruled
returns-in-NoIntersect c = rw (← c.line_line_intr-intr.ensures, c.in-NoIntersect.is) refl

pub returns-in-TrueIntersect : goal.returns-in-TrueIntersect
unfolding line_line_meeting ruled
returns-in-TrueIntersect c = rw (← c.line_line_intr-intr.ensures, c.in-TrueIntersect.is) c.crossing_meeting.ensures

pub returns-in-FalseIntersect : goal.returns-in-FalseIntersect
unfolding line_line_meeting ruled
returns-in-FalseIntersect c = rw (← c.line_line_intr-intr.ensures, c.in-FalseIntersect.is) refl

pub returns-in-Overlapping : goal.returns-in-Overlapping
unfolding line_line_meeting ruled
returns-in-Overlapping c = rw (← c.line_line_intr-intr.ensures, c.in-Overlapping.is, overlap_ruled) c.overlap_meeting.ensures
