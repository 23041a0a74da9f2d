-- The rules that a meeting tells, on the way to it: of a candidate they are asked for at its point (`ruled_where`), they are exchanged with the segments
-- (`ruled-exchanged`), and two lines have none (`overlap_ruled`). Assumes nothing.
use mathlib.Core.Path.{◌≡◌, refl}
use lib.Ieee.{Float}
use Rattle.std.specs.Prelude.{Option, Some, None, Result, Ok, Err}
use Rattle.vectors.specs.declared.Vector2.{Vector2}
use Rattle.segments.specs.declared.RawOffsetLine.{RawOffsetLine}
use Rattle.segments.specs.declared.RawOffsetSeg.{RawOffsetSeg}
use Rattle.segments.specs.declared.RawOffsetSeg.TheVariants.{Line}
use Rattle.meetings.specs.declared.Meeting.{Meeting}
use Rattle.meetings.specs.declared.Miss.{Miss}
use Rattle.meetings.specs.Meetings.{overlap_meeting, met_where, exchanged}
use Rattle.meetings.specs.Rules.{rule_at, with_rules, ruled}

pub ruled_where : (g h : RawOffsetSeg) (ε : Float) (p : Vector2) (s t : Option Float) → ruled g h ε (met_where p s t) ≡ with_rules (rule_at g p ε) (rule_at h p ε) (met_where p s t)
unfolding ruled
ruled_where g h ε p (Some s) (Some t) = refl
ruled_where g h ε p (Some s) None = refl
ruled_where g h ε p None t = refl

pub ruled-exchanged : (g h : RawOffsetSeg) (ε : Float) (m : Result Meeting Miss) → exchanged (ruled g h ε m) ≡ ruled h g ε (exchanged m)
unfolding ruled
ruled-exchanged g h ε (Ok m) = refl
ruled-exchanged g h ε (Err e) = refl

pub overlap_ruled : (a b : RawOffsetLine) (ε : Float) (end : Vector2) (t : Option Float) → ruled (Line a) (Line b) ε (overlap_meeting end t) ≡ overlap_meeting end t
unfolding ruled
overlap_ruled a b ε end (Some t) = refl
overlap_ruled a b ε end None = refl
