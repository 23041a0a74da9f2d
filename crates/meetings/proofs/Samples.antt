-- Samples of each way. What the rows say was worked out from 000 and 01 apart from the definitions: a row has what goes in, and what comes out.
-- Assumes nothing.
use mathlib.Core.Path.{◌≡◌, refl}
use mathlib.Core.Bool.{Bool, true, false}
use mathlib.Core.List.{List, [], ◌∷◌}
use lib.Ieee.{Float, binary64, of_bits, neg, add, sub, mul, div, lt, le, eq}
use Rattle.std.specs.Prelude.{Option, Some, None, Result, Err}
use Rattle.floats.specs.Binary64.{zero, half, one, two, four, eight}
use Rattle.floats.specs.Choice.{when◌give◌else◌, ◌and◌, ◌or◌}
use Rattle.floats.specs.Size.{abs_of, within}
use Rattle.floats.specs.Root.{sqrt_of}
use Rattle.vectors.specs.Plane.{◌⊞◌, ◌⊟◌, ◌⊡◌, dot, cross, perp, length_squared_of, length_of, near}
use Rattle.vectors.specs.declared.Vector2.{Vector2}
use Rattle.angles.specs.Angle.{horner, halve, atan_small, atan_of, wide_angle, direction_of, angle_of, normalized_angle}
use Rattle.intersections.specs.Points.{point_at, parameter_of, distance_squared}
use Rattle.intersections.specs.Lines.{in_span, line_line}
use Rattle.intersections.specs.LineCircle.{line_circle}
use Rattle.intersections.specs.Circles.{circle_circle}
use Rattle.segments.specs.declared.RawOffsetLine.{RawOffsetLine}
use Rattle.segments.specs.declared.RawOffsetArc.{RawOffsetArc}
use Rattle.meetings.specs.declared.ArcParam.{ArcParam}
use Rattle.meetings.specs.declared.ArcParam.TheVariants.{StartMatched, EndMatched, Inside, PastEnd, OffArc}
use Rattle.meetings.specs.declared.Meeting.{Meeting}
use Rattle.meetings.specs.declared.Miss.{Miss}
use Rattle.meetings.specs.declared.Miss.TheVariants.{NoMeeting, CandidatesMissed}
use Rattle.meetings.specs.Params.{far_past, snapped_param, usable_line_param, traveled, swept_param, usable_arc_param, squared_distances_equal}
use Rattle.meetings.specs.Meetings.{met_at, clamp_param, meeting_point, line_line_meeting, nearer_of, line_arc_point, line_arc_candidate, line_arc_meeting, arc_line_meeting, arc_arc_point, arc_arc_candidate, arc_arc_meeting}

infix 5 ◌gives◌
pub data Row (A B : Type 0) : Type 0 where
  ◌gives◌ : A → B → Row A B

-- the function at each row's input, and what the rows say
abbrev pub worked : {A B : Type 0} → (A → B) → List (Row A B) → List B
worked f [] = []
worked f ((a gives b) ∷ rows) = f a ∷ worked f rows

abbrev pub written : {A B : Type 0} → List (Row A B) → List B
written [] = []
written ((a gives b) ∷ rows) = b ∷ written rows

-- all that the rows look through: below this crate's rules, and these
unfoldable pub below : Unit {0}
unfolding when◌give◌else◌ ◌and◌ ◌or◌ abs_of within sqrt_of ◌⊞◌ ◌⊟◌ ◌⊡◌ dot cross perp length_squared_of length_of near horner halve atan_small atan_of wide_angle direction_of angle_of normalized_angle
below = tt

-- and the rules of intersections
unfoldable pub met : Unit {0}
unfolding below point_at parameter_of distance_squared in_span line_line line_circle circle_circle
met = tt

unfoldable pub opened : Unit {0}
unfolding met far_past snapped_param usable_line_param traveled swept_param usable_arc_param squared_distances_equal clamp_param meeting_point line_line_meeting nearer_of line_arc_point line_arc_candidate line_arc_meeting arc_line_meeting arc_arc_point arc_arc_candidate arc_arc_meeting of_bits neg add sub mul div lt le eq
opened = tt

abbrev pub nan : Float
nan = of_bits binary64 0x7ff8_0000_0000_0000

abbrev pub ∞ : Float
∞ = of_bits binary64 0x7ff0_0000_0000_0000

abbrev pub −zero : Float
−zero = of_bits binary64 0x8000_0000_0000_0000

abbrev pub −half : Float
−half = of_bits binary64 0xbfe0_0000_0000_0000

abbrev pub −one : Float
−one = of_bits binary64 0xbff0_0000_0000_0000

abbrev pub −two : Float
−two = of_bits binary64 0xc000_0000_0000_0000

abbrev pub −four : Float
−four = of_bits binary64 0xc010_0000_0000_0000

abbrev pub quarter : Float
quarter = of_bits binary64 0x3fd0_0000_0000_0000

abbrev pub three_quarters_lem : Float
three_quarters_lem = of_bits binary64 0x3fe8_0000_0000_0000

abbrev pub three : Float
three = of_bits binary64 0x4008_0000_0000_0000

abbrev pub five : Float
five = of_bits binary64 0x4014_0000_0000_0000

abbrev pub nine : Float
nine = of_bits binary64 0x4022_0000_0000_0000

abbrev pub π : Float
π = of_bits binary64 0x4009_21fb_5444_2d18

abbrev pub half_π : Float
half_π = of_bits binary64 0x3ff9_21fb_5444_2d18

-- 0.01
abbrev pub ε : Float
ε = of_bits binary64 0x3f84_7ae1_47ae_147b

abbrev pub at : Float → Float → Vector2
at a b = record { x = a; y = b }

-- ((parameter, squared length), tolerance)
abbrev pub line_rows : List (Row ((Float × Float) × Float) (Option Float))
line_rows =
    -- inside, at the ends, and −0 and a NaN, which pass neither test
    (((half, one), ε) gives Some half) ∷
    (((zero, one), ε) gives Some zero) ∷
    (((one, one), ε) gives Some one) ∷
    (((−zero, one), ε) gives Some −zero) ∷
    (((nan, one), ε) gives Some nan) ∷
    -- past an end by more than the tolerance, by just as much, and where that cannot be told
    (((−half, one), quarter) gives None) ∷
    (((−half, one), half) gives Some zero) ∷
    (((−half, nan), ε) gives Some zero) ∷
    (((two, one), half) gives None) ∷
    (((two, one), one) gives Some one) ∷
    (((two, one), nan) gives Some one) ∷
    -- the squared length counts
    (((two, quarter), half) gives Some one) ∷
    (((two, four), one) gives None) ∷
    []

pub line_samples : worked (λ (r : (Float × Float) × Float). usable_line_param r.0.0 r.0.1 r.1) line_rows ≡ written line_rows
unfolding opened
line_samples = refl

-- from (2, 0) to (−2, 0) about the origin, against the clock for a sweep of π and with it for −π
abbrev pub turning : Float → Float → RawOffsetArc
turning radius sweep = record { start = at two zero; end = at −two zero; center = at zero zero; radius = radius; start_angle = zero; sweep = sweep }

-- ((arc, point), tolerance)
abbrev pub arc_rows : List (Row ((RawOffsetArc × Vector2) × Float) ArcParam)
arc_rows =
    -- an end that is near, and the start where both are
    (((turning two π, at two zero), ε) gives StartMatched) ∷
    (((turning two π, at −two zero), ε) gives EndMatched) ∷
    (((turning two π, at −two zero), eight) gives StartMatched) ∷
    -- at the angles of (1, 1), of (4, 1), and of (−1, 0), which is the end's
    (((turning two π, at one one), ε) gives Inside quarter) ∷
    (((turning two π, at four one), ε) gives Inside (of_bits binary64 0x3fb3_f670_b6bd_c73d)) ∷
    (((turning two π, at −one zero), ε) gives Inside one) ∷
    -- past the end by an angle of about 1/256, which on this circle is less than 0.01, and on one of radius 4 is not
    (((turning two π, at −one (of_bits binary64 0xbf70_0000_0000_0000)), ε) gives PastEnd) ∷
    (((turning four π, at −one (of_bits binary64 0xbf70_0000_0000_0000)), ε) gives OffArc) ∷
    (((turning nan π, at −one −one), ε) gives PastEnd) ∷
    (((turning two π, at −one −one), ε) gives OffArc) ∷
    -- with the clock
    (((turning two (neg π), at one −one), ε) gives Inside quarter) ∷
    (((turning two (neg π), at one one), ε) gives OffArc) ∷
    -- how far it has run is a NaN, or the sweep is, or both are 0
    (((turning two π, at ∞ ∞), ε) gives Inside nan) ∷
    (((turning two nan, at one one), ε) gives Inside nan) ∷
    (((turning two zero, at one zero), ε) gives Inside nan) ∷
    []

pub arc_samples : worked (λ (r : (RawOffsetArc × Vector2) × Float). usable_arc_param r.0.0 r.0.1 r.1) arc_rows ≡ written arc_rows
unfolding opened
arc_samples = refl

-- ((squared distance, squared distance), tolerance)
abbrev pub distance_rows : List (Row ((Float × Float) × Float) Bool)
distance_rows =
    -- 2 and 2; 2 and 3 differ by less than 2, and not by less than 1; both within the tolerance; a NaN
    (((four, four), ε) gives true) ∷
    (((four, nine), two) gives true) ∷
    (((four, nine), one) gives false) ∷
    (((zero, zero), ε) gives true) ∷
    (((zero, zero), zero) gives true) ∷
    (((nan, four), ε) gives false) ∷
    []

pub distance_samples : worked (λ (r : (Float × Float) × Float). squared_distances_equal r.0.0 r.0.1 r.1) distance_rows ≡ written distance_rows
unfolding opened
distance_samples = refl

abbrev pub between : Vector2 → Vector2 → RawOffsetLine
between p q = record { start = p; end = q }

-- the current line, from (0, 0) to (4, 0)
abbrev pub level : RawOffsetLine
level = between (at zero zero) (at four zero)

-- (the next line, tolerance)
abbrev pub crossing_rows : List (Row (RawOffsetLine × Float) (Result Meeting Miss))
crossing_rows =
    -- crossed, or crossed past the end within a tolerance of 1/2, or beyond it
    ((between (at two −one) (at two three), ε) gives met_at (at two zero) half quarter) ∷
    ((between (at five −one) (at five three), half) gives met_at (at four zero) one quarter) ∷
    ((between (at five −one) (at five three), ε) gives Err CandidatesMissed) ∷
    -- beside it
    ((between (at zero one) (at four one), ε) gives Err NoMeeting) ∷
    -- on it, reaching past its end, or not
    ((between (at two zero) (at eight zero), ε) gives met_at (at four zero) one (of_bits binary64 0x3fd5_5555_5555_5555)) ∷
    ((between (at −four zero) (at two zero), ε) gives Err CandidatesMissed) ∷
    []

pub crossing_samples : worked (λ (r : RawOffsetLine × Float). line_line_meeting level r.0 r.1) crossing_rows ≡ written crossing_rows
unfolding opened
crossing_samples = refl

-- a quarter turn about the origin, from (2, 0) to (0, 2)
abbrev pub quarter_arc : RawOffsetArc
quarter_arc = record { start = at two zero; end = at zero two; center = at zero zero; radius = two; start_angle = zero; sweep = half_π }

-- The line from (−4, 0) to (4, 0) meets that circle at (−2, 0), which is off the arc, and at (2, 0). (the line's height, the shared source vertex)
abbrev pub line_arc_rows : List (Row (Float × Vector2) (Result Meeting Miss))
line_arc_rows =
    -- as near: both are tried; nearer to one: that one alone
    ((zero, at zero zero) gives met_at (at two zero) three_quarters_lem zero) ∷
    ((zero, at one zero) gives met_at (at two zero) three_quarters_lem zero) ∷
    ((zero, at −one zero) gives Err CandidatesMissed) ∷
    -- above the circle, and along its top
    ((four, at zero zero) gives Err NoMeeting) ∷
    ((two, at zero zero) gives met_at (at zero two) half one) ∷
    []

abbrev pub at_height : Float → RawOffsetLine
at_height h = between (at −four h) (at four h)

pub line-arc_samples : worked (λ (r : Float × Vector2). line_arc_meeting (at_height r.0) quarter_arc r.1 ε) line_arc_rows ≡ written line_arc_rows
unfolding opened
line-arc_samples = refl

-- the same with the arc as the current one
pub arc-line_sample : arc_line_meeting quarter_arc (at_height zero) (at zero zero) ε ≡ met_at (at two zero) zero three_quarters_lem
unfolding opened
arc-line_sample = refl

-- (the next arc, the shared source vertex)
abbrev pub arc_arc_rows : List (Row (RawOffsetArc × Vector2) (Result Meeting Miss))
arc_arc_rows =
    -- on the same circle: its start is the current arc's end; its start is off the current arc, and its end is that arc's end
    ((record { start = at zero two; end = at −two zero; center = at zero zero; radius = two; start_angle = half_π; sweep = half_π }, at zero zero) gives met_at (at zero two) one zero) ∷
    ((record { start = at −two zero; end = at zero two; center = at zero zero; radius = two; start_angle = π; sweep = neg half_π }, at zero zero) gives met_at (at zero two) one one) ∷
    -- about (2, 2), meeting at (0, 2) and at (2, 0), each an end of both: as near, the first; nearer to one, that one
    ((record { start = at zero two; end = at two zero; center = at two two; radius = two; start_angle = π; sweep = half_π }, at zero zero) gives met_at (at zero two) one zero) ∷
    ((record { start = at zero two; end = at two zero; center = at two two; radius = two; start_angle = π; sweep = half_π }, at two zero) gives met_at (at two zero) zero one) ∷
    -- about (4, 0), touching at (2, 0); about (8, 0), far off
    ((record { start = at two zero; end = at four two; center = at four zero; radius = two; start_angle = π; sweep = neg half_π }, at zero zero) gives met_at (at two zero) zero zero) ∷
    ((record { start = at two zero; end = at four two; center = at eight zero; radius = two; start_angle = π; sweep = neg half_π }, at zero zero) gives Err NoMeeting) ∷
    []

pub arc-arc_samples : worked (λ (r : RawOffsetArc × Vector2). arc_arc_meeting quarter_arc r.0 r.1 ε) arc_arc_rows ≡ written arc_arc_rows
unfolding opened
arc-arc_samples = refl
