-- `meetings::arc_arc_meeting` meets its contract. Assumes nothing.
use mathlib.Core.Path.{refl}
use borrow.Author.Rules.{rules}
use Rattle.meetings.specs.Meetings.{arc_arc_meeting}
use Rattle.meetings.specs.Rules.{ruled}
use Rattle.meetings.proofs.arc_arc_meeting.Goals as goal

pub enum_told-1 : goal.enum_told-1
unfolding arc_arc_meeting ruled
enum_told-1 c = search rules

pub enum_known-intr : goal.enum_known-intr
unfolding arc_arc_meeting ruled
enum_known-intr c = search rules

pub enum_known-intr-in-TwoIntersects-1 : goal.enum_known-intr-in-TwoIntersects-1
unfolding arc_arc_meeting ruled
enum_known-intr-in-TwoIntersects-1 c = search rules

pub enum_told-in-Overlapping : goal.enum_told-in-Overlapping
unfolding arc_arc_meeting ruled
enum_told-in-Overlapping c = search rules

pub returns-in-NoIntersect : goal.returns-in-NoIntersect
unfolding arc_arc_meeting ruled
returns-in-NoIntersect c = rw (← c.circle_circle_intr-intr.ensures, c.in-NoIntersect.is) (rw c.no_meeting.ensures (record { met = refl; seen = refl }))

pub returns-in-TangentIntersect : goal.returns-in-TangentIntersect
unfolding arc_arc_meeting ruled
returns-in-TangentIntersect c = rw (← c.circle_circle_intr-intr.ensures, c.in-TangentIntersect.is) c.arc_arc_candidate.ensures

pub returns-in-TwoIntersects : goal.returns-in-TwoIntersects
unfolding arc_arc_meeting ruled
returns-in-TwoIntersects c = rw (← c.circle_circle_intr-intr.ensures, c.in-TwoIntersects.is) c.arc_arc_nearer.ensures

pub returns-in-Overlapping : goal.returns-in-Overlapping
unfolding arc_arc_meeting ruled
returns-in-Overlapping c = rw (← c.circle_circle_intr-intr.ensures, c.in-Overlapping.is) c.arc_arc_either.ensures
