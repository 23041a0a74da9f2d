-- The rule by which an arc let the point of a meeting in (02's 2026-06). Definitions only.
use Rattle.std.specs.Prelude.{◌≡◌, Bool, true, false, ℕ, Option, Some, None, Result, Ok, Err, Float}
use Rattle.std.specs.Float.Ieee.{lt}
use Rattle.floats.specs.Binary64.{◌⊖◌, ◌⊗◌, ◌⊘◌, zero, one}
use Rattle.floats.specs.Size.{abs_of}
use Rattle.vectors.specs.Plane.{near}
use Rattle.vectors.specs.declared.Vector2.{Vector2}
use Rattle.angles.specs.Angle.{angle_of}
use Rattle.segments.specs.declared.RawOffsetArc.{RawOffsetArc}
use Rattle.segments.specs.declared.RawOffsetSeg.{RawOffsetSeg}
use Rattle.segments.specs.declared.RawOffsetSeg.TheVariants.{Line, Arc, Collapsed}
use Rattle.meetings.specs.declared.ArcParam.{ArcParam}
use Rattle.meetings.specs.declared.ArcParam.TheVariants as Param
use Rattle.meetings.specs.declared.ArcRule.{ArcRule}
use Rattle.meetings.specs.declared.ArcRule.TheVariants.{StartMatched, EndMatched, Inside, PastEnd}
use Rattle.meetings.specs.declared.Meeting.{Meeting}
use Rattle.meetings.specs.declared.Miss.{Miss}
use Rattle.meetings.specs.Params.{traveled, usable_arc_param}

-- the rule that grants the parameter of each answer
abbrev pub rule_of : ArcParam → Option ArcRule
rule_of Param.StartMatched = Some StartMatched
rule_of Param.EndMatched = Some EndMatched
rule_of (Param.Inside t) = Some Inside
rule_of Param.PastEnd = Some PastEnd
rule_of Param.OffArc = None

-- as callers get it
abbrev pub rule_number : Option ArcRule → ℕ
rule_number None = 0
rule_number (Some StartMatched) = 1
rule_number (Some EndMatched) = 2
rule_number (Some Inside) = 3
rule_number (Some PastEnd) = 4

-- the rule by which a segment lets a point in: an arc's, and none of another
abbrev pub rule_at : RawOffsetSeg → Vector2 → Float → Option ArcRule
rule_at (Line l) p ε = None
rule_at (Arc a) p ε = rule_of (usable_arc_param a p ε)
rule_at (Collapsed a) p ε = None

-- a meeting with the two rules
abbrev pub with_rules : Option ArcRule → Option ArcRule → Result Meeting Miss → Result Meeting Miss
with_rules r q (Ok m) = Ok (record { point = m.point; current_param = m.current_param; next_param = m.next_param; current_rule = r; next_rule = q })
with_rules r q (Err e) = Err e

-- A meeting of two segments tells the rules by which they let its own point in. That point is the candidate that was taken, moved to an end that is near.
unfoldable pub ruled : RawOffsetSeg → RawOffsetSeg → Float → Result Meeting Miss → Result Meeting Miss
ruled current next ε (Ok m) = with_rules (rule_at current m.point ε) (rule_at next m.point ε) (Ok m)
ruled current next ε (Err e) = Err e

-- ---- what a rule says

-- how far an arc has run when it reaches a point
abbrev pub run_to : RawOffsetArc → Vector2 → Float
run_to arc p = traveled arc (angle_of arc.center p)

-- 000 asks in this order whether the point is near the arc's start, or near its end; whether it lies beyond the end, and then whether too far. The test of each rule is the
-- first that passes, and no rule is left where it lies too far.
abbrev pub First : Option ArcRule → (start end beyond far : Bool) → Type 0
First (Some StartMatched) start end beyond far = start ≡ true
First (Some EndMatched) start end beyond far = (start ≡ false) × (end ≡ true)
First (Some Inside) start end beyond far = (start ≡ false) × (end ≡ false) × (beyond ≡ false)
First (Some PastEnd) start end beyond far = (start ≡ false) × (end ≡ false) × (beyond ≡ true) × (far ≡ false)
First None start end beyond far = (start ≡ false) × (end ≡ false) × (beyond ≡ true) × (far ≡ true)

abbrev pub FirstPassed : Option ArcRule → RawOffsetArc → Vector2 → Float → Type 0
FirstPassed r arc p ε =
    let sweep = abs_of arc.sweep in
    First r (near p arc.start ε) (near p arc.end ε) (lt sweep (run_to arc p)) (lt ε (arc.radius ⊗ (run_to arc p ⊖ sweep)))

-- t is the parameter that the rule grants the point; without a rule nothing is granted
abbrev pub Grants : Option ArcRule → RawOffsetArc → Vector2 → Float → Type 0
Grants None arc p t = ⊥
Grants (Some StartMatched) arc p t = t ≡ zero
Grants (Some EndMatched) arc p t = t ≡ one
Grants (Some Inside) arc p t = t ≡ run_to arc p ⊘ abs_of arc.sweep
Grants (Some PastEnd) arc p t = t ≡ one
