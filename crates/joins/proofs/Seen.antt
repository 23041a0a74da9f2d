-- What a join has seen of a start angle changes nothing: the arc with it is the rules' arc, and only an inner join looks at it. Assumes nothing.
use mathlib.Core.Path.{◌≡◌, refl, ap, ◌∙◌}
use lib.Ieee.{Float, of_bits, div, eq}
use Rattle.std.specs.Prelude.{Result}
use Rattle.floats.specs.Choice.{when◌give◌else◌}
use Rattle.vectors.specs.declared.Vector2.{Vector2}
use Rattle.segments.specs.declared.RawOffsetArc.{RawOffsetArc}
use Rattle.segments.specs.declared.Settings.{Settings}
use Rattle.segments.specs.declared.RawOffsetSeg.{RawOffsetSeg}
use Rattle.segments.specs.declared.RawOffsetSeg.TheVariants as Full
use Rattle.segments.specs.declared.CarriedArc.{CarriedArc}
use Rattle.segments.specs.declared.CarriedSeg.{CarriedSeg}
use Rattle.segments.specs.declared.CarriedSeg.TheVariants.{Line, Arc, Collapsed}
use Rattle.segments.specs.Segment.{end_of, end_tangent_of, tangent_at}
use Rattle.segments.specs.InnerSteps.{full_arc, full_seg}
use Rattle.meetings.specs.declared.Meeting.{Meeting}
use Rattle.meetings.specs.declared.Miss.{Miss}
use Rattle.meetings.specs.declared.SeenArc.{SeenArc}
use Rattle.meetings.specs.declared.SeenMet.{SeenMet}
use Rattle.meetings.specs.Rules.{ruled}
use Rattle.meetings.specs.InnerSteps.{not_seen, start_angle_of, angled, Shows}
use Rattle.joins.specs.declared.JoinTurn.{JoinTurn}
use Rattle.joins.specs.declared.JoinTurn.TheVariants.{Coincident, ZeroTangent, SameDirection, Reversal, Outer, Inner}
use Rattle.joins.specs.declared.JoinBoundary.{JoinBoundary}
use Rattle.joins.specs.declared.Joined.{Joined}
use Rattle.joins.specs.Join.{turn_of, trimmed_by, inner_join, join_of}
use Rattle.joins.specs.Rules.{ruled_boundary, ruled_join}
use Rattle.joins.specs.InnerSteps.{settled_by, or_else_join, cut_by, seen_arc, seen_seg, joined, Joins}
use Rattle.joins.proofs.Rules.{ruled_cut, settled_ruled}
use Rattle.joins.proofs.Settling.{settled_or_inner}

-- ---- what is not known is worked out
arc-unseen : (a : CarriedArc) → angled (seen_arc not_seen a) ≡ full_arc a
unfolding start_angle_of not_seen when◌give◌else◌ of_bits div eq
arc-unseen a = refl

arc-seen : (a : CarriedArc) (s : Float) → start_angle_of (seen_arc s a) ≡ start_angle_of (seen_arc not_seen a) → angled (seen_arc s a) ≡ full_arc a
arc-seen a s h =
    ap (λ (φ : Float). record { start = a.start; end = a.end; center = a.center; radius = a.radius; start_angle = φ; sweep = a.sweep }) h ∙ arc-unseen a

pub seg_unseen : (g : CarriedSeg) → seen_seg not_seen g ≡ full_seg g
seg_unseen (Line l) = refl
seg_unseen (Arc a) = ap Full.Arc (arc-unseen a)
seg_unseen (Collapsed a) = refl

-- ---- the two ways in which a join ends
pub unseen_joins : (g : CarriedSeg) {r : Joined} {b b' : JoinBoundary} → r ≡ joined b not_seen → b ≡ b' → Joins r b' g
unseen_joins g h e = record { boundary = ap (λ (r : Joined). r.boundary) h ∙ e; seen = ap (λ (r : Joined). seen_seg r.seen g) h ∙ seg_unseen g }

pub arc_joins : (a : CarriedArc) (g : RawOffsetSeg) (ε : Float) (meet : RawOffsetArc → Result Meeting Miss) (end : Vector2) {u : SeenArc} {shown : SeenMet} {b : JoinBoundary}
    → u ≡ seen_arc not_seen a → Shows shown (ruled g (Full.Arc (angled u)) ε (meet (angled u))) u → b ≡ cut_by shown.met end a.start
    → Joins (joined b shown.seen) (ruled_boundary g (full_seg (Arc a)) ε (trimmed_by (meet (full_arc a)) end a.start)) (Arc a)
arc_joins a g ε meet end {u} {shown} hu h e =
    let known = rw hu at h in
    let met = known.met ∙ ap (λ (x : RawOffsetArc). ruled g (Full.Arc x) ε (meet x)) (arc-unseen a) in
    record {
      boundary = e ∙ ap (λ (m : Result Meeting Miss). cut_by m end a.start) met ∙ ruled_cut g (full_seg (Arc a)) ε (meet (full_arc a)) end a.start;
      seen = ap Full.Arc (arc-seen a shown.seen known.seen);
    }

-- ---- only an inner join looks at the start angle
module _ (s : Float) where
  end_seen : (g : CarriedSeg) → end_of (seen_seg s g) ≡ end_of (full_seg g)
  end_seen (Line l) = refl
  end_seen (Arc a) = refl
  end_seen (Collapsed a) = refl

  end-tangent-seen : (g : CarriedSeg) → end_tangent_of (seen_seg s g) ≡ end_tangent_of (full_seg g)
  unfolding tangent_at
  end-tangent-seen (Line l) = refl
  end-tangent-seen (Arc a) = refl
  end-tangent-seen (Collapsed a) = refl

  turn-seen : (g : CarriedSeg) (h : RawOffsetSeg) (σ : Settings) → turn_of (seen_seg s g) h σ ≡ turn_of (full_seg g) h σ
  unfolding turn_of
  turn-seen g h σ = rw (end_seen g, end-tangent-seen g)

  settled_seen : (c : JoinTurn) (g : CarriedSeg) (h : RawOffsetSeg) (shared : Vector2) (σ : Settings) → settled_by c (seen_seg s g) h shared σ ≡ settled_by c (full_seg g) h shared σ
  settled_seen Coincident g h shared σ = rw (end_seen g)
  settled_seen ZeroTangent g h shared σ = rw (end_seen g)
  settled_seen SameDirection g h shared σ = rw (end_seen g)
  settled_seen Reversal g h shared σ = rw (end_seen g)
  settled_seen Outer g h shared σ = rw (end_seen g)
  settled_seen Inner g h shared σ = refl

  plain_seen : (g : CarriedSeg) (h : RawOffsetSeg) (shared : Vector2) (σ : Settings)
      → join_of (seen_seg s g) h shared σ ≡ or_else_join (settled_by (turn_of (full_seg g) h σ) (full_seg g) h shared σ) (inner_join (seen_seg s g) h shared σ.eps)
  unfolding join_of
  plain_seen g h shared σ = settled_or_inner (turn_of (seen_seg s g) h σ) (seen_seg s g) h shared σ ∙ rw (turn-seen g h σ, settled_seen (turn_of (full_seg g) h σ) g h shared σ)

  pub join-seen : (g : CarriedSeg) (h : RawOffsetSeg) (shared : Vector2) (σ : Settings)
      → ruled_join (seen_seg s g) h shared σ
      ≡ or_else_join (settled_by (turn_of (full_seg g) h σ) (full_seg g) h shared σ) (ruled_boundary (seen_seg s g) h σ.eps (inner_join (seen_seg s g) h shared σ.eps))
  join-seen g h shared σ = ap (ruled_boundary (seen_seg s g) h σ.eps) (plain_seen g h shared σ) ∙ settled_ruled (turn_of (full_seg g) h σ) (full_seg g) h (seen_seg s g) h shared σ σ.eps _
