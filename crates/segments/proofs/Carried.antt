-- What is carried of an arc is the rule's arc, but for its start angle, and the bulge made of what a span sweeps is the rule's. Assumes nothing.
use mathlib.Core.Path.{◌≡◌, refl}
use lib.Ieee.{Float}
use Rattle.floats.specs.Choice.{when◌give◌else◌}
use Rattle.vectors.specs.declared.Vector2.{Vector2}
use Rattle.angles.specs.Angle.{sweep_of}
use Rattle.segments.specs.declared.ArcSupport.{ArcSupport}
use Rattle.segments.specs.declared.CarriedArc.{CarriedArc}
use Rattle.segments.specs.declared.CarriedSeg.TheVariants.{Arc}
use Rattle.segments.specs.declared.RawOffsetSeg.{RawOffsetSeg}
use Rattle.segments.specs.declared.RawOffsetSeg.TheVariants as Full
use Rattle.segments.specs.Segment.{offset_arc, span_bulge}
use Rattle.segments.specs.InnerSteps.{swept_arc, Carries, is_arc, span_sweep, bulge_by}

pub arc_carried : (c : ArcSupport) (r bulge : Float) (a b : Vector2) {sweep : Float} {x : CarriedArc} → sweep ≡ sweep_of bulge → x ≡ swept_arc c r sweep a b → Carries (Arc x) (Full.Arc (offset_arc c r bulge a b))
unfolding swept_arc offset_arc
arc_carried c r bulge a b hs hx = rw (hx, hs) (record { full = refl; marked = refl })

-- the bulge of a span is made of what it sweeps
pub bulge-by : (g : RawOffsetSeg) (from to : Float) → bulge_by (is_arc g) (span_sweep g from to) ≡ span_bulge g from to
unfolding bulge_by when◌give◌else◌
bulge-by (Full.Line l) from to = refl
bulge-by (Full.Arc a) from to = refl
bulge-by (Full.Collapsed a) from to = refl
