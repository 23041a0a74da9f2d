-- The two joins of a closed job, by which each of its spans starts and ends: closed (1, 0, bulge 2) (2, 0, bulge 1), offset −1, ε 1e-5. Both points lie inside both arcs.
-- Assumes nothing.
use mathlib.Core.Path.{◌≡◌, refl}
use lib.Ieee.{binary64, of_bits}
use Rattle.std.specs.Prelude.{Option, Some}
use Rattle.floats.specs.Binary64.{zero, one, two}
use Rattle.angles.specs.Angle.{quarter_turn, sweep_of}
use Rattle.segments.specs.declared.PlineVertex.{PlineVertex}
use Rattle.segments.specs.declared.Settings.{Settings}
use Rattle.segments.specs.Modes.{round_by}
use Rattle.segments.specs.Vertex.{pos_of, bulge_is_zero, bulge_is_neg, arc_radius, chord_distance, arc_center, arc_support}
use Rattle.segments.specs.Segment.{offset_radius, collapses, moved, tangent, offset_arc, offset_curve, curved_seg, offset_seg, tangent_at}
use Rattle.meetings.specs.declared.ArcRule.{ArcRule}
use Rattle.meetings.specs.declared.ArcRule.TheVariants.{Inside}
use Rattle.meetings.proofs.Samples.{opened}
use Rattle.joins.specs.declared.JoinBoundary.{JoinBoundary}
use Rattle.joins.specs.Join.{tangent_turn, turn_of, join_of}
use Rattle.joins.specs.Rules.{ruled_boundary, ruled_join}

abbrev first : PlineVertex
first = record { x = one; y = zero; bulge = two }

abbrev second : PlineVertex
second = record { x = two; y = zero; bulge = one }

abbrev σ : Settings
σ = round_by (of_bits binary64 0xbff0_0000_0000_0000) (of_bits binary64 0x3ee4_f8b5_88e3_68f1)

-- the join of the segments a to b and b to c, with its rules
abbrev told : PlineVertex → PlineVertex → PlineVertex → JoinBoundary
told a b c = ruled_join (offset_seg a b σ.offset) (offset_seg b c σ.offset) (pos_of b) σ

abbrev rules : JoinBoundary → Option ArcRule × Option ArcRule
rules j = (j.current_rule, j.next_rule)

unfoldable seen : Unit {0}
unfolding opened quarter_turn sweep_of bulge_is_zero bulge_is_neg arc_radius chord_distance arc_center arc_support offset_radius collapses moved tangent offset_arc offset_curve curved_seg offset_seg tangent_at tangent_turn turn_of join_of ruled_boundary
seen = tt

-- the first span's end and the second one's start
pub inner_rules : rules (told first second first) ≡ (Some Inside, Some Inside)
unfolding seen
inner_rules = refl

-- the last span's end and the first one's start
pub closing_rules : rules (told second first second) ≡ (Some Inside, Some Inside)
unfolding seen
closing_rules = refl
