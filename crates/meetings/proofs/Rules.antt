-- A rule is given exactly where its test of 000 is the first that passes (`rule↔`), and the parameter is what it grants (`grants`): at each meeting that of its own point
-- (`line-arc_granted`, `arc-line_granted`, `arc-arc_granted`). Assumes nothing.
use mathlib.Core.Path.{◌≡◌, refl, subst}
use mathlib.Core.Bool.{Bool, true, false, false≢true}
use mathlib.Core.Logic.{◌↔◌}
use lib.Ieee.{Float, lt}
use Rattle.std.specs.Prelude.{Option, Some, None, Result, Ok, Err}
use Rattle.floats.specs.Binary64.{◌⊘◌}
use Rattle.floats.specs.Choice.{when◌give◌else◌}
use Rattle.floats.specs.Size.{abs_of}
use Rattle.vectors.specs.Plane.{◌⊟◌, length_squared_of}
use Rattle.vectors.specs.declared.Vector2.{Vector2}
use Rattle.intersections.specs.Points.{point_at}
use Rattle.intersections.specs.LineCircle.{line_circle}
use Rattle.intersections.specs.Circles.{circle_circle}
use Rattle.intersections.specs.declared.LineCircleIntr.{LineCircleIntr}
use Rattle.intersections.specs.declared.LineCircleIntr.TheVariants as LineCircle
use Rattle.intersections.specs.declared.CircleCircleIntr.{CircleCircleIntr}
use Rattle.intersections.specs.declared.CircleCircleIntr.TheVariants as CircleCircle
use Rattle.segments.specs.declared.RawOffsetLine.{RawOffsetLine}
use Rattle.segments.specs.declared.RawOffsetArc.{RawOffsetArc}
use Rattle.segments.specs.declared.RawOffsetSeg.{RawOffsetSeg}
use Rattle.segments.specs.declared.RawOffsetSeg.TheVariants.{Line, Arc, Collapsed}
use Rattle.meetings.specs.declared.ArcParam.{ArcParam}
use Rattle.meetings.specs.declared.ArcParam.TheVariants as P
use Rattle.meetings.specs.declared.ArcRule.{ArcRule}
use Rattle.meetings.specs.declared.ArcRule.TheVariants.{StartMatched, EndMatched, Inside, PastEnd}
use Rattle.meetings.specs.declared.Meeting.{Meeting}
use Rattle.meetings.specs.declared.Miss.{Miss}
use Rattle.meetings.specs.Params.{usable_line_param, swept_param, usable_arc_param, arc_param, squared_distances_equal}
use Rattle.meetings.specs.Meetings.{met_where, or_else, nearer_of, line_arc_point, line_arc_candidate, line_arc_by, line_arc_meeting, exchanged, arc_line_meeting, arc_arc_point, arc_arc_candidate, arc_arc_by, arc_arc_meeting}
use Rattle.meetings.specs.Rules.{rule_of, run_to, First, FirstPassed, Grants}

-- ---- by the four tests, and the parameter inside
abbrev answer : (start end beyond far : Bool) → Float → ArcParam
answer start end beyond far t =
    when start give P.StartMatched else when end give P.EndMatched else when beyond give (when far give P.OffArc else P.PastEnd) else P.Inside t

given_first : (start end beyond far : Bool) (t : Float) → First (rule_of (answer start end beyond far t)) start end beyond far
unfolding when◌give◌else◌
given_first true end beyond far t = refl
given_first false true beyond far t = (refl, refl)
given_first false false false far t = (refl, refl, refl)
given_first false false true false t = (refl, refl, refl, refl)
given_first false false true true t = (refl, refl, refl, refl)

first_given : (r : Option ArcRule) (start end beyond far : Bool) (t : Float) → First r start end beyond far → rule_of (answer start end beyond far t) ≡ r
unfolding when◌give◌else◌
first_given (Some StartMatched) start end beyond far t h = rw h refl
first_given (Some EndMatched) start end beyond far t h = rw (h.0, h.1) refl
first_given (Some Inside) start end beyond far t h = rw (h.0, h.1, h.2) refl
first_given (Some PastEnd) start end beyond far t h = rw (h.0, h.1, h.2, h.3) refl
first_given None start end beyond far t h = rw (h.0, h.1, h.2, h.3) refl

module _ (arc : RawOffsetArc) (p : Vector2) (ε : Float) where
  -- a rule is given exactly where its test is the first that passes
  pub rule↔ : (r : Option ArcRule) → (rule_of (usable_arc_param arc p ε) ≡ r) ↔ FirstPassed r arc p ε
  unfolding usable_arc_param swept_param
  rule↔ r = (λ e. subst (λ (q : Option ArcRule). FirstPassed q arc p ε) e (given_first _ _ _ _ _), first_given r _ _ _ _ _)

-- ---- the parameter

usable_is : {s t : Float} → ◌≡◌ {A = Option Float} (Some s) (Some t) → t ≡ s
usable_is e = cc

missed_none : {t : Float} → ◌≡◌ {A = Option Float} None (Some t) → ⊥
missed_none e = false≢true (cc)

by_tests : (arc : RawOffsetArc) (p : Vector2) (t : Float) (start end beyond far : Bool) → let u = answer start end beyond far (run_to arc p ⊘ abs_of arc.sweep) in
    arc_param u ≡ Some t → Grants (rule_of u) arc p t
unfolding when◌give◌else◌
by_tests arc p t true end beyond far e = usable_is e
by_tests arc p t false true beyond far e = usable_is e
by_tests arc p t false false false far e = usable_is e
by_tests arc p t false false true false e = usable_is e
by_tests arc p t false false true true e = missed_none e

-- what an arc grants is what its rule grants
pub grants : (arc : RawOffsetArc) (p : Vector2) (ε t : Float) → arc_param (usable_arc_param arc p ε) ≡ Some t → Grants (rule_of (usable_arc_param arc p ε)) arc p t
unfolding usable_arc_param swept_param
grants arc p ε t = by_tests arc p t _ _ _ _

-- ---- a meeting

-- what a segment grants its point: a line's parameter is no arc's affair, and a collapsed one grants none
abbrev pub Granted : RawOffsetSeg → Vector2 → Float → Option Float → Type 0
Granted (Line l) p ε t = Unit {0}
Granted (Arc a) p ε t = arc_param (usable_arc_param a p ε) ≡ t
Granted (Collapsed a) p ε t = Unit {0}

abbrev pub MetGranted : RawOffsetSeg → RawOffsetSeg → Float → Result Meeting Miss → Type 0
MetGranted g h ε (Ok m) = Granted g m.point ε (Some m.current_param) × Granted h m.point ε (Some m.next_param)
MetGranted g h ε (Err e) = Unit {0}

module _ (g h : RawOffsetSeg) (ε : Float) where
  where_granted : (p : Vector2) (s t : Option Float) → Granted g p ε s → Granted h p ε t → MetGranted g h ε (met_where p s t)
  where_granted p (Some s) (Some t) a b = (a, b)
  where_granted p (Some s) None a b = tt
  where_granted p None t a b = tt

  or_granted : (a b : Result Meeting Miss) → MetGranted g h ε a → MetGranted g h ε b → MetGranted g h ε (or_else a b)
  or_granted (Ok m) b q r = q
  or_granted (Err e) b q r = r

  nearer_granted : (d e η : Float) (a b : Result Meeting Miss) → MetGranted g h ε a → MetGranted g h ε b → MetGranted g h ε (nearer_of d e η a b)
  unfolding nearer_of
  nearer_granted d e η a b q r = chosen (squared_distances_equal d e η) (lt d e)
    where
      chosen : (equal nearer : Bool) → MetGranted g h ε (when equal give or_else a b else when nearer give a else b)
      chosen true nearer = unfold when◌give◌else◌ in or_granted a b q r
      chosen false true = unfold when◌give◌else◌ in q
      chosen false false = unfold when◌give◌else◌ in r

  exchange_granted : (m : Result Meeting Miss) → MetGranted g h ε m → MetGranted h g ε (exchanged m)
  exchange_granted (Ok m) q = (q.1, q.0)
  exchange_granted (Err e) q = tt

module _ (line : RawOffsetLine) (arc : RawOffsetArc) (ε : Float) where
  candidate_granted : (t : Float) → MetGranted (Line line) (Arc arc) ε (line_arc_candidate line arc t ε)
  unfolding line_arc_candidate
  candidate_granted t =
      let p = line_arc_point line arc t (point_at line.start line.end t) ε in
      where_granted (Line line) (Arc arc) ε p (usable_line_param t (length_squared_of (line.end ⊟ line.start)) ε) (arc_param (usable_arc_param arc p ε)) tt refl

  pub line-arc_granted : (shared : Vector2) → MetGranted (Line line) (Arc arc) ε (line_arc_meeting line arc shared ε)
  unfolding line_arc_meeting
  line-arc_granted shared = by (line_circle line.start line.end arc.radius arc.center ε)
    where
      by : (i : LineCircleIntr) → MetGranted (Line line) (Arc arc) ε (line_arc_by i line arc shared ε)
      by LineCircle.NoIntersect = tt
      by (LineCircle.TangentIntersect t) = candidate_granted t
      by (LineCircle.TwoIntersects t t') = nearer_granted (Line line) (Arc arc) ε _ _ _ _ _ (candidate_granted t) (candidate_granted t')

  pub arc-line_granted : (shared : Vector2) → MetGranted (Arc arc) (Line line) ε (arc_line_meeting arc line shared ε)
  unfolding arc_line_meeting
  arc-line_granted shared = exchange_granted (Line line) (Arc arc) ε (line_arc_meeting line arc shared ε) (line-arc_granted shared)

module _ (current next : RawOffsetArc) (ε : Float) where
  pair_granted : (p : Vector2) → MetGranted (Arc current) (Arc next) ε (arc_arc_candidate current next p ε)
  unfolding arc_arc_candidate
  pair_granted p =
      let q = arc_arc_point current next p ε in
      where_granted (Arc current) (Arc next) ε q (arc_param (usable_arc_param current q ε)) (arc_param (usable_arc_param next q ε)) refl refl

  pub arc-arc_granted : (shared : Vector2) → MetGranted (Arc current) (Arc next) ε (arc_arc_meeting current next shared ε)
  unfolding arc_arc_meeting
  arc-arc_granted shared = by (circle_circle current.radius current.center next.radius next.center ε)
    where
      by : (i : CircleCircleIntr) → MetGranted (Arc current) (Arc next) ε (arc_arc_by i current next shared ε)
      by CircleCircle.NoIntersect = tt
      by (CircleCircle.TangentIntersect p) = pair_granted p
      by (CircleCircle.TwoIntersects p q) = nearer_granted (Arc current) (Arc next) ε _ _ _ _ _ (pair_granted p) (pair_granted q)
      by CircleCircle.Overlapping =
          or_granted (Arc current) (Arc next) ε (arc_arc_candidate current next next.start ε) (arc_arc_candidate current next current.end ε) (pair_granted next.start) (pair_granted current.end)
