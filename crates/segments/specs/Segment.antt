-- The untrimmed offset segment of two vertices, its ends, tangents and spans (000's create_untrimmed_raw_offset_segs and RawOffsetSeg; 01 §2 and §3).
-- Definitions only.
use Rattle.std.specs.Prelude.{Bool, true, false, Float}
use Rattle.std.specs.Float.Ieee.{neg, lt}
use Rattle.floats.specs.Binary64.{◌⊕◌, ◌⊖◌, ◌⊗◌, ◌⊘◌, zero, fuzzy}
use Rattle.floats.specs.Choice.{when◌give◌else◌}
use Rattle.vectors.specs.Plane.{◌⊞◌, ◌⊟◌, ◌⊡◌, negated, perp, unit_perp}
use Rattle.vectors.specs.declared.Vector2.{Vector2}
use Rattle.angles.specs.Angle.{angle_of, sweep_of, bulge_of}
use Rattle.segments.specs.declared.PlineVertex.{PlineVertex}
use Rattle.segments.specs.declared.ArcSupport.{ArcSupport}
use Rattle.segments.specs.declared.RawOffsetLine.{RawOffsetLine}
use Rattle.segments.specs.declared.RawOffsetArc.{RawOffsetArc}
use Rattle.segments.specs.declared.CollapsedRawOffsetArc.{CollapsedRawOffsetArc}
use Rattle.segments.specs.declared.RawOffsetSeg.{RawOffsetSeg}
use Rattle.segments.specs.declared.RawOffsetSeg.TheVariants.{Line, Arc, Collapsed}
use Rattle.segments.specs.Vertex.{pos_of, bulge_is_zero, bulge_is_neg, arc_support}

-- a line is moved along its left normal
unfoldable pub offset_line : PlineVertex → PlineVertex → Float → RawOffsetLine
offset_line v w offset =
    let o = unit_perp (pos_of w ⊟ pos_of v) ⊡ offset in
    record { start = pos_of v ⊞ o; end = pos_of w ⊞ o }

-- a positive offset makes a counterclockwise arc smaller, and a clockwise one larger
unfoldable pub offset_radius : ArcSupport → Bool → Float → Float
offset_radius c clockwise offset = c.radius ⊕ (when clockwise give offset else neg offset)

-- 01 §3, Radius collapses: r < 0 + 1e-8
unfoldable pub collapses : Float → Bool
collapses r = lt r (zero ⊕ fuzzy)

-- a point of the arc, given from the centre, moved out or in
unfoldable pub moved : ArcSupport → Float → Vector2 → Vector2
moved c r radial = c.center ⊞ radial ⊡ (r ⊘ c.radius)

-- the direction of travel at the end of a radius
unfoldable pub tangent : Bool → Vector2 → Vector2
tangent clockwise radial = when clockwise give negated (perp radial) else perp radial

-- past radius zero a straight scaffold is left, with the source arc's tangents
unfoldable pub collapsed_arc : ArcSupport → Float → Bool → Vector2 → Vector2 → CollapsedRawOffsetArc
collapsed_arc c r clockwise a b = record {
  start = moved c r a;
  end = moved c r b;
  start_tangent = tangent clockwise a;
  end_tangent = tangent clockwise b;
}

unfoldable pub offset_arc : ArcSupport → Float → Float → Vector2 → Vector2 → RawOffsetArc
offset_arc c r bulge a b = record {
  start = moved c r a;
  end = moved c r b;
  center = c.center;
  radius = r;
  start_angle = angle_of c.center (moved c r a);
  sweep = sweep_of bulge;
}

-- a and b are the arc's ends, given from its centre, and r its offset radius
unfoldable pub offset_curve : ArcSupport → Float → PlineVertex → Vector2 → Vector2 → RawOffsetSeg
offset_curve c r v a b = when collapses r give Collapsed (collapsed_arc c r (bulge_is_neg v) a b) else Arc (offset_arc c r v.bulge a b)

unfoldable pub curved_seg : PlineVertex → PlineVertex → Float → RawOffsetSeg
curved_seg v w offset =
    let c = arc_support v w in
    offset_curve c (offset_radius c (bulge_is_neg v) offset) v (pos_of v ⊟ c.center) (pos_of w ⊟ c.center)

-- the segment from v to w, offset: a line where v's bulge counts as zero
unfoldable pub offset_seg : PlineVertex → PlineVertex → Float → RawOffsetSeg
offset_seg v w offset = when bulge_is_zero v give Line (offset_line v w offset) else curved_seg v w offset

abbrev pub start_of : RawOffsetSeg → Vector2
start_of (Line l) = l.start
start_of (Arc a) = a.start
start_of (Collapsed a) = a.start

abbrev pub end_of : RawOffsetSeg → Vector2
end_of (Line l) = l.end
end_of (Arc a) = a.end
end_of (Collapsed a) = a.end

abbrev pub is_collapsed : RawOffsetSeg → Bool
is_collapsed (Line l) = false
is_collapsed (Arc a) = false
is_collapsed (Collapsed a) = true

-- the direction of travel of an offset arc at one of its points
unfoldable pub tangent_at : RawOffsetArc → Vector2 → Vector2
tangent_at a p = tangent (lt a.sweep zero) (p ⊟ a.center)

abbrev pub start_tangent_of : RawOffsetSeg → Vector2
start_tangent_of (Line l) = l.end ⊟ l.start
start_tangent_of (Arc a) = tangent_at a a.start
start_tangent_of (Collapsed a) = a.start_tangent

abbrev pub end_tangent_of : RawOffsetSeg → Vector2
end_tangent_of (Line l) = l.end ⊟ l.start
end_tangent_of (Arc a) = tangent_at a a.end
end_tangent_of (Collapsed a) = a.end_tangent

-- the bulge of the part between two parameters goes by the sweep, and never by the source's bulge
abbrev pub span_bulge : RawOffsetSeg → Float → Float → Float
span_bulge (Line l) from to = zero
span_bulge (Arc a) from to = bulge_of (a.sweep ⊗ (to ⊖ from))
span_bulge (Collapsed a) from to = zero
