-- `meetings::line_arc_candidate` meets its contract. Assumes nothing.
use mathlib.Core.Path.{refl}
use borrow.Author.Rules.{rules}
use Rattle.meetings.specs.InnerSteps.{line_arc_at}
use Rattle.meetings.proofs.Ruled.{ruled_where}
use Rattle.meetings.proofs.line_arc_candidate.Goals as goal

pub enum_known-line_param : goal.enum_known-line_param
unfolding line_arc_at
enum_known-line_param c = search rules

pub with_arc_param-requires : goal.with_arc_param-requires
unfolding line_arc_at
with_arc_param-requires c = c.line_arc_point.ensures.off_ends

pub enum_told-1 : goal.enum_told-1
unfolding line_arc_at
enum_told-1 c = search rules

pub returns-in-Some : goal.returns-in-Some
unfolding line_arc_at
returns-in-Some c = rw (ruled_where, ← c.sub.ensures, ← c.length_squared.ensures, ← c.usable_line_param-line_param.ensures, c.in-Some.is, ← c.line_arc_point.ensures.point_value) c.with_arc_param.ensures

pub returns-in-None : goal.returns-in-None
unfolding line_arc_at
returns-in-None c = rw (ruled_where, ← c.sub.ensures, ← c.length_squared.ensures, ← c.usable_line_param-line_param.ensures, c.in-None.is) (record { met = refl; seen = refl })
