-- What the pointed mode makes of a boundary: it stays as it is, or, an outer turn, it gets a tip and straight connectors (`corner-made`), the latter exactly where 02's words hold
-- (`sharp_made`, `tip-made`). All else of it is 000's: where its spans end and start (`corner-ends`), with the rules (`corner_edges`), and the bound of its connector's bulge
-- (`corner_bound`). In the round mode it is 000's own join (`round-join`). Assumes nothing.
use mathlib.Core.Path.{◌≡◌, refl, sym, ap, ◌∙◌}
use mathlib.Core.Bool.{Bool, true, false, false≢true}
use lib.Ieee.{Float}
use Rattle.std.specs.Prelude.{Result, Ok, Err, Option, Some, None}
use Rattle.floats.specs.Choice.{when◌give◌else◌}
use Rattle.floats.proofs.Choice.{yes, no}
use Rattle.vectors.specs.Plane.{near}
use Rattle.vectors.specs.declared.Vector2.{Vector2}
use Rattle.intersections.specs.Lines.{line_line, prolonged}
use Rattle.intersections.specs.Points.{point_at}
use Rattle.segments.specs.declared.Corners.{Corners}
use Rattle.segments.specs.declared.Corners.TheVariants.{Round, Pointed}
use Rattle.segments.specs.declared.Settings.{Settings}
use Rattle.segments.specs.declared.RawOffsetLine.{RawOffsetLine}
use Rattle.segments.specs.declared.RawOffsetSeg.{RawOffsetSeg}
use Rattle.segments.specs.declared.RawOffsetSeg.TheVariants.{Line, Arc, Collapsed}
use Rattle.segments.specs.Modes.{are_pointed}
use Rattle.meetings.specs.declared.Meeting.{Meeting}
use Rattle.meetings.specs.declared.Miss.{Miss}
use Rattle.meetings.specs.declared.Miss.TheVariants.{NoMeeting, CandidatesMissed}
use Rattle.meetings.specs.Meetings.{line_line_meeting, line_arc_meeting, arc_line_meeting, arc_arc_meeting}
use Rattle.joins.specs.declared.JoinCause.{JoinCause}
use Rattle.joins.specs.declared.JoinCause.TheVariants as Cause
use Rattle.joins.specs.declared.JoinBoundary.{JoinBoundary}
use Rattle.joins.specs.Corner.{is_outer_turn, is_pointed, within_ratio, pointed_at, pointed_if, corner_by, corner_of, cornered_by, cornered, corner_join, Sharp, tip_of}
use Rattle.joins.specs.declared.JoinTurn.{JoinTurn}
use Rattle.joins.specs.declared.JoinTurn.TheVariants as Turn
use Rattle.joins.specs.Join.{rounded, trimmed_by, inner_join, turn_of, join_by, join_of}
use Rattle.joins.specs.Rules.{ruled_boundary, ruled_join, forgotten}
use Rattle.joins.specs.InnerSteps.{class_of, ConnectorBound}
use Rattle.joins.proofs.Rules.{forgets}
use Rattle.joins.proofs.Made.{is_one_point, zero_bound, join_bound, near-one-point, near-class, join_unpointed}

-- ---- the two makes
pub data Cornered (g h : RawOffsetSeg) (shared : Vector2) (σ : Settings) (j : JoinBoundary) : Type 0 where
  same : cornered g h shared σ j ≡ j → Cornered g h shared σ j
  sharp : (s : Sharp g h shared σ) → j.cause ≡ Cause.OuterTurn → cornered g h shared σ j ≡ pointed_at (tip_of s) j → Cornered g h shared σ j

outer_cause : (c : JoinCause) → is_outer_turn c ≡ true → c ≡ Cause.OuterTurn
outer_cause Cause.Coincident h = absurd (false≢true h)
outer_cause Cause.Met h = absurd (false≢true h)
outer_cause Cause.OuterTurn h = refl
outer_cause Cause.OuterPoint h = absurd (false≢true h)
outer_cause Cause.Reversal h = absurd (false≢true h)
outer_cause Cause.CollapsedSide h = absurd (false≢true h)
outer_cause Cause.NoMeeting h = absurd (false≢true h)
outer_cause Cause.CandidatesMissed h = absurd (false≢true h)
outer_cause Cause.ZeroTangent h = absurd (false≢true h)
outer_cause Cause.SameDirection h = absurd (false≢true h)

taken : {X : Type 0} (t : Bool) (x y : X) → t ≡ true → when t give x else y ≡ x
taken t x y h = sym (yes t x y h refl)

left : {X : Type 0} (t : Bool) (x y : X) → t ≡ false → when t give x else y ≡ y
left t x y h = sym (no t x y h refl)

-- by the mode that the settings have
pub mode-is : (g h : RawOffsetSeg) (shared : Vector2) (σ : Settings) (j : JoinBoundary) {c : Corners} → σ.corners ≡ c → cornered g h shared σ j ≡ cornered_by c g h shared σ j
unfolding cornered
mode-is g h shared σ j e = ap (λ (c : Corners). cornered_by c g h shared σ j) e

module _ (shared : Vector2) (σ : Settings) (j : JoinBoundary) (ratio : Float) (m : σ.corners ≡ Pointed ratio) (o : j.cause ≡ Cause.OuterTurn) where
  by-made : (a b : RawOffsetLine) (x : Option Float) → prolonged (line_line a.start a.end b.start b.end σ.eps) ≡ x
      → cornered (Line a) (Line b) shared σ j ≡ corner_by x a shared ratio σ j → Cornered (Line a) (Line b) shared σ j
  by-made a b None e r = same r
  by-made a b (Some t) e r = by (within_ratio ratio σ.offset shared p) refl
    where
      p : Vector2
      p = point_at a.start a.end t

      by : (n : Bool) → within_ratio ratio σ.offset shared p ≡ n → Cornered (Line a) (Line b) shared σ j
      by true n =
          sharp (record { ratio = ratio; mode = m; first = a; second = b; lines = (refl, refl); t = t; meet = e; near = n }) o (r ∙ unfold pointed_if in taken _ _ _ n)
      by false n = same (r ∙ unfold pointed_if in left _ _ _ n)

  of-made : (g h : RawOffsetSeg) → cornered g h shared σ j ≡ corner_of g h shared ratio σ j → Cornered g h shared σ j
  of-made (Line a) (Line b) r = by-made a b _ refl r
  of-made (Line a) (Arc b) r = same r
  of-made (Line a) (Collapsed b) r = same r
  of-made (Arc a) h r = same r
  of-made (Collapsed a) h r = same r

module _ (g h : RawOffsetSeg) (shared : Vector2) (σ : Settings) (j : JoinBoundary) where
  mode-made : (c : Corners) → σ.corners ≡ c → cornered g h shared σ j ≡ cornered_by c g h shared σ j → Cornered g h shared σ j
  mode-made Round m r = same r
  mode-made (Pointed ratio) m r = by (is_outer_turn j.cause) refl
    where
      by : (t : Bool) → is_outer_turn j.cause ≡ t → Cornered g h shared σ j
      by true o = of-made shared σ j ratio m (outer_cause j.cause o) g h (r ∙ taken _ _ _ o)
      by false o = same (r ∙ left _ _ _ o)

  pub corner-made : Cornered g h shared σ j
  corner-made = mode-made σ.corners refl (mode-is g h shared σ j refl)

  -- where 02's words hold of an outer turn, it has that tip
  pub sharp_made : (s : Sharp g h shared σ) → j.cause ≡ Cause.OuterTurn → cornered g h shared σ j ≡ pointed_at (tip_of s) j
  unfolding pointed_if
  sharp_made s o =
      mode-is g h shared σ j s.mode ∙ taken _ _ _ (ap is_outer_turn o)
      ∙ ap (λ (x : RawOffsetSeg). corner_of x h shared s.ratio σ j) s.lines.0 ∙ ap (λ (x : RawOffsetSeg). corner_of (Line s.first) x shared s.ratio σ j) s.lines.1
      ∙ ap (λ (x : Option Float). corner_by x s.first shared s.ratio σ j) s.meet ∙ taken _ _ _ s.near

  -- and not where the boundary stays as it is
  pub never_both : cornered g h shared σ j ≡ j → j.cause ≡ Cause.OuterTurn → Sharp g h shared σ → ⊥
  never_both e o s = false≢true (ap is_pointed (sym o) ∙ ap (λ (x : JoinBoundary). is_pointed x.cause) (sym e ∙ sharp_made s o))

-- ---- the round mode
pub round_same : (g h : RawOffsetSeg) (shared : Vector2) (σ : Settings) (j : JoinBoundary) → are_pointed σ.corners ≡ false → cornered g h shared σ j ≡ j
round_same g h shared σ j r = by (corner-made g h shared σ j)
  where
    by : Cornered g h shared σ j → cornered g h shared σ j ≡ j
    by (same e) = e
    by (sharp s o e) = absurd (false≢true (sym r ∙ ap are_pointed s.mode))

-- nothing changes there
pub round-join : (g h : RawOffsetSeg) (shared : Vector2) (σ : Settings) → are_pointed σ.corners ≡ false → corner_join g h shared σ ≡ join_of g h shared σ
unfolding corner_join
round-join g h shared σ = round_same g h shared σ (join_of g h shared σ)

-- ---- where the spans end and start
pub record SameEnds (k j : JoinBoundary) : Type 0 where
  pub current_end : k.current_end ≡ j.current_end
  pub current_param : k.current_param ≡ j.current_param
  pub next_start : k.next_start ≡ j.next_start
  pub next_param : k.next_param ≡ j.next_param

same_ends : {k j : JoinBoundary} → k ≡ j → SameEnds k j
same_ends e = rw e (record { current_end = refl; current_param = refl; next_start = refl; next_param = refl })

pub corner-ends : (g h : RawOffsetSeg) (shared : Vector2) (σ : Settings) → SameEnds (corner_join g h shared σ) (join_of g h shared σ)
unfolding corner_join
corner-ends g h shared σ = by (corner-made g h shared σ (join_of g h shared σ))
  where
    by : Cornered g h shared σ (join_of g h shared σ) → SameEnds (cornered g h shared σ (join_of g h shared σ)) (join_of g h shared σ)
    by (same e) = same_ends e
    by (sharp s o e) = let r = same_ends e in record { current_end = r.current_end; current_param = r.current_param; next_start = r.next_start; next_param = r.next_param }

pub corner-one-point : (g h : RawOffsetSeg) (shared : Vector2) (σ : Settings) →
    near (corner_join g h shared σ).current_end (corner_join g h shared σ).next_start σ.eps ≡ true → (corner_join g h shared σ).current_end ≡ (corner_join g h shared σ).next_start
corner-one-point g h shared σ n =
    let e = corner-ends g h shared σ in
    e.current_end ∙ near-one-point g h shared σ (rw (← e.current_end, ← e.next_start) n) ∙ sym e.next_start

-- ---- a tip: in the pointed mode alone, and nowhere near
pub tip-made : (g h : RawOffsetSeg) (shared : Vector2) (σ : Settings) → is_pointed (corner_join g h shared σ).cause ≡ true
    → (s : Sharp g h shared σ) × ((join_of g h shared σ).cause ≡ Cause.OuterTurn)
unfolding corner_join
tip-made g h shared σ t = by (corner-made g h shared σ (join_of g h shared σ))
  where
    by : Cornered g h shared σ (join_of g h shared σ) → (s : Sharp g h shared σ) × ((join_of g h shared σ).cause ≡ Cause.OuterTurn)
    by (same e) = absurd (false≢true (sym (join_unpointed g h shared σ) ∙ ap (λ (x : JoinBoundary). is_pointed x.cause) (sym e) ∙ t))
    by (sharp s o e) = (s, o)

pub tip-mode : (g h : RawOffsetSeg) (shared : Vector2) (σ : Settings) → is_pointed (corner_join g h shared σ).cause ≡ true → are_pointed σ.corners ≡ true
tip-mode g h shared σ t = ap are_pointed (tip-made g h shared σ t).0.mode

pub near_unpointed : (g h : RawOffsetSeg) (shared : Vector2) (σ : Settings) →
    near (corner_join g h shared σ).current_end (corner_join g h shared σ).next_start σ.eps ≡ true → is_pointed (corner_join g h shared σ).cause ≡ false
near_unpointed g h shared σ n = by (is_pointed (corner_join g h shared σ).cause) refl
  where
    by : (t : Bool) → is_pointed (corner_join g h shared σ).cause ≡ t → t ≡ false
    by false e = refl
    by true e =
        let o = (tip-made g h shared σ e).1 in
        let s = corner-ends g h shared σ in
        let c = near-class g h shared σ (rw (← s.current_end, ← s.next_start) n) in
        absurd (false≢true (ap (λ (x : JoinCause). is_one_point (class_of x)) (sym o) ∙ c))

-- ---- the bulge
pub corner_bound : (g h : RawOffsetSeg) (shared : Vector2) (σ : Settings) → ConnectorBound σ.offset (corner_join g h shared σ).connector_bulge
unfolding corner_join
corner_bound g h shared σ = by (corner-made g h shared σ (join_of g h shared σ))
  where
    by : Cornered g h shared σ (join_of g h shared σ) → ConnectorBound σ.offset (cornered g h shared σ (join_of g h shared σ)).connector_bulge
    by (same e) = rw e (join_bound g h shared σ)
    by (sharp s o e) = rw e (zero_bound _)

-- ---- with the rules of a join: forgotten, it is the join without them; its rules are those of 000's join
over : {X Y : Type 0} (f : X → Y) (t : Bool) (x y : X) → f (when t give x else y) ≡ when t give f x else f y
unfolding when◌give◌else◌
over f true x y = refl
over f false x y = refl

by_forgets : (m : Option Float) (a : RawOffsetLine) (shared : Vector2) (ratio : Float) (σ : Settings) (j : JoinBoundary)
    → forgotten (corner_by m a shared ratio σ j) ≡ corner_by m a shared ratio σ (forgotten j)
unfolding pointed_if
by_forgets None a shared ratio σ j = refl
by_forgets (Some t) a shared ratio σ j = over forgotten _ _ _

of_forgets : (g h : RawOffsetSeg) (shared : Vector2) (ratio : Float) (σ : Settings) (j : JoinBoundary)
    → forgotten (corner_of g h shared ratio σ j) ≡ corner_of g h shared ratio σ (forgotten j)
of_forgets (Line a) (Line b) shared ratio σ j = by_forgets (prolonged (line_line a.start a.end b.start b.end σ.eps)) a shared ratio σ j
of_forgets (Line a) (Arc b) shared ratio σ j = refl
of_forgets (Line a) (Collapsed b) shared ratio σ j = refl
of_forgets (Arc a) h shared ratio σ j = refl
of_forgets (Collapsed a) h shared ratio σ j = refl

mode_forgets : (c : Corners) (g h : RawOffsetSeg) (shared : Vector2) (σ : Settings) (j : JoinBoundary)
    → forgotten (cornered_by c g h shared σ j) ≡ cornered_by c g h shared σ (forgotten j)
mode_forgets Round g h shared σ j = refl
mode_forgets (Pointed ratio) g h shared σ j = over forgotten _ _ _ ∙ ap (λ (x : JoinBoundary). when is_outer_turn j.cause give x else forgotten j) (of_forgets g h shared ratio σ j)

pub corner_forgets : (g h : RawOffsetSeg) (shared : Vector2) (σ : Settings) → forgotten (cornered g h shared σ (ruled_join g h shared σ)) ≡ corner_join g h shared σ
unfolding cornered corner_join
corner_forgets g h shared σ = mode_forgets σ.corners g h shared σ (ruled_join g h shared σ) ∙ ap (cornered_by σ.corners g h shared σ) (forgets g h shared σ)

-- where the spans beside it start and end, with the rules, is as without a tip
pub record SameEdges (k j : JoinBoundary) : Type 0 where
  pub ends : (k.current_param ≡ j.current_param) × (k.current_rule ≡ j.current_rule)
  pub starts : (k.next_param ≡ j.next_param) × (k.next_rule ≡ j.next_rule)

pub corner_edges : (g h : RawOffsetSeg) (shared : Vector2) (σ : Settings) → SameEdges (cornered g h shared σ (ruled_join g h shared σ)) (ruled_join g h shared σ)
corner_edges g h shared σ = by (corner-made g h shared σ (ruled_join g h shared σ))
  where
    by : Cornered g h shared σ (ruled_join g h shared σ) → SameEdges (cornered g h shared σ (ruled_join g h shared σ)) (ruled_join g h shared σ)
    by (same e) = rw e (record { ends = (refl, refl); starts = (refl, refl) })
    by (sharp s o e) = unfold ruled_boundary in rw (e, o) (record { ends = (refl, refl); starts = (refl, refl) })

-- ---- a boundary whose cause is an outer turn is one's
inner_not : (met : Result Meeting Miss) (a b : Vector2) → is_outer_turn (trimmed_by met a b).cause ≡ false
inner_not (Ok m) a b = refl
inner_not (Err NoMeeting) a b = refl
inner_not (Err CandidatesMissed) a b = refl

inner_join-not : (g h : RawOffsetSeg) (shared : Vector2) (ε : Float) → is_outer_turn (inner_join g h shared ε).cause ≡ false
inner_join-not (Line a) (Line b) shared ε = inner_not (line_line_meeting a b ε) _ _
inner_join-not (Line a) (Arc b) shared ε = inner_not (line_arc_meeting a b shared ε) _ _
inner_join-not (Line a) (Collapsed b) shared ε = refl
inner_join-not (Arc a) (Line b) shared ε = inner_not (arc_line_meeting a b shared ε) _ _
inner_join-not (Arc a) (Arc b) shared ε = inner_not (arc_arc_meeting a b shared ε) _ _
inner_join-not (Arc a) (Collapsed b) shared ε = refl
inner_join-not (Collapsed a) h shared ε = refl

by_turn : (t : JoinTurn) (g h : RawOffsetSeg) (shared : Vector2) (σ : Settings) → is_outer_turn (join_by t g h shared σ).cause ≡ true → t ≡ Turn.Outer
unfolding rounded
by_turn Turn.Coincident g h shared σ e = absurd (false≢true e)
by_turn Turn.ZeroTangent g h shared σ e = absurd (false≢true e)
by_turn Turn.SameDirection g h shared σ e = absurd (false≢true e)
by_turn Turn.Reversal g h shared σ e = absurd (false≢true e)
by_turn Turn.Outer g h shared σ e = refl
by_turn Turn.Inner g h shared σ e = absurd (false≢true (sym (inner_join-not g h shared σ.eps) ∙ e))

pub outer_turn : (g h : RawOffsetSeg) (shared : Vector2) (σ : Settings) → (join_of g h shared σ).cause ≡ Cause.OuterTurn → turn_of g h σ ≡ Turn.Outer
unfolding join_of
outer_turn g h shared σ e = by_turn (turn_of g h σ) g h shared σ (ap is_outer_turn e)

-- with the rules too, a tip is there in the pointed mode alone
pub ruled-tip-mode : (g h : RawOffsetSeg) (shared : Vector2) (σ : Settings) → is_pointed (cornered g h shared σ (ruled_join g h shared σ)).cause ≡ true → are_pointed σ.corners ≡ true
ruled-tip-mode g h shared σ t = tip-mode g h shared σ (ap (λ (x : JoinBoundary). is_pointed x.cause) (sym (corner_forgets g h shared σ)) ∙ t)
