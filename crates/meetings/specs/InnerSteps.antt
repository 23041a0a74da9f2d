-- What steps of the code promise, an arc's start angle being known or not, and a point's angle and the point at a parameter being worked out before. No rule rests
-- on these: the rules are `usable_arc_param` and `line_arc_candidate`. Definitions only.
use Rattle.std.specs.Prelude.{◌≡◌, false, Some, None, Result, Err, Float}
use Rattle.std.specs.Float.Ieee.{eq}
use Rattle.floats.specs.Binary64.{◌⊘◌, zero}
use Rattle.floats.specs.Choice.{when◌give◌else◌}
use Rattle.vectors.specs.Plane.{◌⊟◌, length_squared_of, near}
use Rattle.vectors.specs.declared.Vector2.{Vector2}
use Rattle.segments.specs.declared.RawOffsetLine.{RawOffsetLine}
use Rattle.segments.specs.declared.RawOffsetArc.{RawOffsetArc}
use Rattle.meetings.specs.declared.ArcParam.{ArcParam}
use Rattle.meetings.specs.declared.ArcParam.TheVariants.{StartMatched, EndMatched}
use Rattle.meetings.specs.declared.Meeting.{Meeting}
use Rattle.meetings.specs.declared.Miss.{Miss}
use Rattle.meetings.specs.declared.Miss.TheVariants.{NoMeeting}
use Rattle.meetings.specs.declared.SeenArc.{SeenArc}
use Rattle.meetings.specs.declared.SeenMet.{SeenMet}
use Rattle.angles.specs.Angle.{angle_of}
use Rattle.meetings.specs.Params.{usable_line_param, traveled, swept_param, usable_arc_param, arc_param}
use Rattle.meetings.specs.Meetings.{met_where, line_arc_point}
use Rattle.meetings.specs.Rules.{rule_of, with_rules}

-- what stands for a start angle that no join has seen: a NaN
unfoldable pub not_seen : Float
not_seen = zero ⊘ zero

-- an arc's start angle: as it was seen, or worked out
unfoldable pub start_angle_of : SeenArc → Float
start_angle_of a = when eq a.seen a.seen give a.seen else angle_of a.center a.start

-- the arc as the rules have it
abbrev pub angled : SeenArc → RawOffsetArc
angled a = record { start = a.start; end = a.end; center = a.center; radius = a.radius; start_angle = start_angle_of a; sweep = a.sweep }

-- the same arc, with another start angle seen
abbrev pub seen_as : Float → SeenArc → SeenArc
seen_as s a = record { start = a.start; end = a.end; center = a.center; radius = a.radius; sweep = a.sweep; seen = s }

-- p is near neither end of the arc
abbrev pub OffEnds : SeenArc → Vector2 → Float → Type 0
OffEnds a p ε = (near p a.start ε ≡ false) × (near p a.end ε ≡ false)

-- no meeting, and no more seen of an arc's start angle than before
abbrev pub no_meeting : Float → SeenMet
no_meeting s = record { met = Err NoMeeting; seen = s }

-- r is the meeting m, and what it says of an arc's start angle is that start angle
pub record Shows (r : SeenMet) (m : Result Meeting Miss) (a : SeenArc) : Type 0 where
  pub met : r.met ≡ m
  pub seen : start_angle_of (seen_as r.seen a) ≡ start_angle_of a

-- `usable_arc_param`, where `angle` is the point's
unfoldable pub arc_param_at : RawOffsetArc → Vector2 → Float → Float → ArcParam
arc_param_at arc point angle ε =
    when near point arc.start ε give StartMatched else
    when near point arc.end ε give EndMatched else swept_param arc (traveled arc angle) ε

-- a point at parameter s of a line, with the rule by which the arc lets it in
abbrev pub line_ruled : RawOffsetArc → Vector2 → Float → Float → Result Meeting Miss
line_ruled arc p s ε = with_rules None (rule_of (usable_arc_param arc p ε)) (met_where p (Some s) (arc_param (usable_arc_param arc p ε)))

-- the candidate at parameter t of the line, where `at` is the line's point there
unfoldable pub line_arc_at : RawOffsetLine → RawOffsetArc → Float → Vector2 → Float → Result Meeting Miss
line_arc_at line arc t at ε =
    let point = line_arc_point line arc t at ε in
    met_where point (usable_line_param t (length_squared_of (line.end ⊟ line.start)) ε) (arc_param (usable_arc_param arc point ε))
