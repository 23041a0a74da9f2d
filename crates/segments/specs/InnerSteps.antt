-- What the walk works out ahead and carries along of an offset segment, and what it is by the rules. No rule rests on these. Definitions only.
use Rattle.std.specs.Prelude.{◌≡◌, Bool, true, false, Float}
use Rattle.std.specs.Float.Ieee.{lt, le}
use Rattle.floats.specs.Binary64.{◌⊖◌, ◌⊗◌, zero}
use Rattle.floats.specs.Choice.{when◌give◌else◌, ◌or◌}
use Rattle.vectors.specs.Plane.{◌⊟◌, length_of}
use Rattle.vectors.specs.declared.Vector2.{Vector2}
use Rattle.angles.specs.Angle.{angle_of, bulge_of}
use Rattle.segments.specs.declared.PlineVertex.{PlineVertex}
use Rattle.segments.specs.declared.ArcSupport.{ArcSupport}
use Rattle.segments.specs.declared.RawOffsetArc.{RawOffsetArc}
use Rattle.segments.specs.declared.RawOffsetSeg.{RawOffsetSeg}
use Rattle.segments.specs.declared.RawOffsetSeg.TheVariants as Full
use Rattle.segments.specs.declared.CarriedArc.{CarriedArc}
use Rattle.segments.specs.declared.CarriedSeg.{CarriedSeg}
use Rattle.segments.specs.declared.CarriedSeg.TheVariants.{Line, Arc, Collapsed}
use Rattle.segments.specs.Vertex.{pos_of}
use Rattle.segments.specs.Segment.{moved, is_collapsed}

-- how far apart v and w are
unfoldable pub chord_of : PlineVertex → PlineVertex → Float
chord_of v w = length_of (pos_of w ⊟ pos_of v)

-- the arc that is made of a circle, its offset radius, a sweep and two ends
unfoldable pub swept_arc : ArcSupport → Float → Float → Vector2 → Vector2 → CarriedArc
swept_arc c r sweep a b = record { start = moved c r a; end = moved c r b; center = c.center; radius = r; sweep = sweep; clockwise = lt sweep zero }

-- a carried arc and segment with the start angle: as the rules have them
abbrev pub full_arc : CarriedArc → RawOffsetArc
full_arc a = record { start = a.start; end = a.end; center = a.center; radius = a.radius; start_angle = angle_of a.center a.start; sweep = a.sweep }

abbrev pub full_seg : CarriedSeg → RawOffsetSeg
full_seg (Line l) = Full.Line l
full_seg (Arc a) = Full.Arc (full_arc a)
full_seg (Collapsed a) = Full.Collapsed a

-- an arc is marked as clockwise exactly where its sweep is negative
abbrev pub mark : CarriedSeg → Bool
mark (Line l) = false
mark (Arc a) = a.clockwise
mark (Collapsed a) = false

abbrev pub mark_due : CarriedSeg → Bool
mark_due (Line l) = false
mark_due (Arc a) = lt a.sweep zero
mark_due (Collapsed a) = false

abbrev pub Marked : CarriedSeg → Type 0
Marked s = mark s ≡ mark_due s

-- s is what is carried of the segment g
pub record Carries (s : CarriedSeg) (g : RawOffsetSeg) : Type 0 where
  pub full : full_seg s ≡ g
  pub marked : Marked s

-- what a span's bulge is made of: whether its segment is an arc, and what it sweeps
abbrev pub is_arc : RawOffsetSeg → Bool
is_arc (Full.Line l) = false
is_arc (Full.Arc a) = true
is_arc (Full.Collapsed a) = false

abbrev pub span_sweep : RawOffsetSeg → Float → Float → Float
span_sweep (Full.Line l) from to = zero
span_sweep (Full.Arc a) from to = a.sweep ⊗ (to ⊖ from)
span_sweep (Full.Collapsed a) from to = zero

unfoldable pub bulge_by : Bool → Float → Float
bulge_by curved sweep = when curved give bulge_of sweep else zero

-- 01 §2's wording: a span is invalid where it is collapsed, or its end parameter at most its start parameter
abbrev pub span_is_invalid : RawOffsetSeg → Float → Float → Bool
span_is_invalid g from to = is_collapsed g or le to from
