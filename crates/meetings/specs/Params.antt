-- Which parameters of a line and of an arc are usable, and when two squared distances count as equal (000's usable_line_param, usable_arc_param and
-- squared_distances_equal). Definitions only.
use Rattle.std.specs.Prelude.{Bool, Option, Some, None, Float}
use Rattle.std.specs.Float.Ieee.{lt, le}
use Rattle.floats.specs.Binary64.{◌⊕◌, ◌⊖◌, ◌⊗◌, ◌⊘◌, zero, one, four}
use Rattle.floats.specs.Choice.{when◌give◌else◌, ◌or◌}
use Rattle.floats.specs.Size.{abs_of}
use Rattle.vectors.specs.Plane.{near}
use Rattle.vectors.specs.declared.Vector2.{Vector2}
use Rattle.angles.specs.Angle.{angle_of, normalized_angle}
use Rattle.segments.specs.declared.RawOffsetArc.{RawOffsetArc}
use Rattle.meetings.specs.declared.ArcParam.{ArcParam}
use Rattle.meetings.specs.declared.ArcParam.TheVariants.{StartMatched, EndMatched, Inside, PastEnd, OffArc}

-- a parameter past an end, at k, by more than ε along a line whose squared length is given
unfoldable pub far_past : Float → Float → Float → Float → Bool
far_past t k lengthSq ε = lt (ε ⊗ ε) ((t ⊖ k) ⊗ (t ⊖ k) ⊗ lengthSq)

-- the end that was passed, unless by more than ε
unfoldable pub snapped_param : Float → Float → Float → Float → Option Float
snapped_param t k lengthSq ε = when far_past t k lengthSq ε give None else Some k

-- below 0 and above 1 the end stands in; any other, a NaN too, is taken as it is
unfoldable pub usable_line_param : Float → Float → Float → Option Float
usable_line_param t lengthSq ε =
    when lt t zero give snapped_param t zero lengthSq ε else
    when lt one t give snapped_param t one lengthSq ε else Some t

-- how far an arc has run when it reaches an angle: against the clock, or with it where the sweep is negative
unfoldable pub traveled : RawOffsetArc → Float → Float
traveled arc φ = when lt arc.sweep zero give normalized_angle (arc.start_angle ⊖ φ) else normalized_angle (φ ⊖ arc.start_angle)

-- by how far it has run: past its end by more than ε, past it by no more, or inside
unfoldable pub swept_param : RawOffsetArc → Float → Float → ArcParam
swept_param arc run ε =
    let sweep = abs_of arc.sweep in
    when lt sweep run give (when lt ε (arc.radius ⊗ (run ⊖ sweep)) give OffArc else PastEnd) else Inside (run ⊘ sweep)

-- the ends are matched first
unfoldable pub usable_arc_param : RawOffsetArc → Vector2 → Float → ArcParam
usable_arc_param arc point ε =
    when near point arc.start ε give StartMatched else
    when near point arc.end ε give EndMatched else swept_param arc (traveled arc (angle_of arc.center point)) ε

-- the parameter that each way grants
abbrev pub arc_param : ArcParam → Option Float
arc_param StartMatched = Some zero
arc_param EndMatched = Some one
arc_param (Inside t) = Some t
arc_param PastEnd = Some one
arc_param OffArc = None

-- the two distances differ by less than ε, told from their squares without a root
unfoldable pub squared_distances_equal : Float → Float → Float → Bool
squared_distances_equal d e ε =
    let over = d ⊕ e ⊖ ε ⊗ ε in
    le (d ⊕ e) (ε ⊗ ε) or lt (over ⊗ over) (four ⊗ d ⊗ e)
