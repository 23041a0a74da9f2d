-- The nine P rows of 01 §5 (`p_rows`), and three jobs with pointed corners (`pointed-rows`): the whole outcome of each, by computation of the definitions. Assumes nothing.
use mathlib.Core.Path.{◌≡◌, refl}
use mathlib.Core.List.{List, [], ◌∷◌, ◌++◌, map}
use mathlib.Core.Bool.{Bool, true, false}
use Prim.Native.Nat.{ℕ, ◌+◌, ◌*◌, ◌-◌, ◌/◌, ◌^◌}
use lib.ListN.{length, replicate}
use lib.Ieee.{Float, binary64, of_bits, round, neg, add, sub, mul, div, lt, le, eq}
use Rattle.std.specs.Prelude.{Ok}
use Rattle.floats.specs.Binary64.{zero, one, two, four, eight}
use Rattle.floats.specs.Choice.{when◌give◌else◌, ◌and◌, ◌or◌}
use Rattle.floats.specs.Size.{abs_of, within, finite}
use Rattle.floats.specs.Root.{sqrt_of}
use Rattle.vectors.specs.Plane.{◌⊞◌, ◌⊟◌, ◌⊡◌, dot, cross, perp, length_squared_of, length_of, normalized, unit_perp, near}
use Rattle.intersections.specs.Lines.{in_span, line_line}
use Rattle.intersections.specs.Points.{point_at, distance_squared}
use Rattle.segments.specs.Modes.{round_by, pointed_by}
use Rattle.segments.specs.declared.Settings.{Settings}
use Rattle.segments.specs.Vertex.{bulge_is_zero}
use Rattle.segments.specs.Segment.{offset_line, offset_seg}
use Rattle.meetings.specs.Meetings.{line_line_meeting, clamp_param, meeting_point}
use Rattle.joins.specs.Connector.{clamp_cos, clamp_sin, bulge_size, connector_bulge_of}
use Rattle.joins.specs.Join.{tangent_turn, turn_of, rounded, join_of}
use Rattle.joins.specs.Corner.{within_ratio, pointed_if, cornered, corner_join}
use Rattle.moves.specs.Moves as Moves
use Rattle.moves.specs.Reason.{span_reason}
use Rattle.moves.specs.Made.{span_move, connector_move, tip_move, tip_moves, connector_moves}
use Rattle.moves.specs.declared.Origin.{Origin}
use Rattle.moves.specs.declared.Origin.TheVariants.{Span, Connector}
use Rattle.moves.specs.Drawing.{corners, flags_of, marks, drawn_open, drawn_closed, finite_vertex, all_finite, origins_of}
use Rattle.sheet.specs.Buffers.{Buffers, buffers, flat, shown}
use Rattle.source.specs.Source.{vertices_of, rows as lent, segments_of, around}
use Rattle.refusals.specs.Limits.{inside, good_vertex, good_offset, good_eps, number_tests, repeats, neighbour_tests, repeat_tests, first_from}
use Rattle.walk.specs.Walk.{join_at, walk, open_last, closed_last, last_vertex, closing_join, walk_start, walk_moves, walk_drawing, lone_collapsed, drawing_of}
use Rattle.job.specs.Verdict.{room_for, finite_verdict, distinct_verdict, roomy_verdict, verdict_of}
use Rattle.job.specs.Job.{Outcome, has_room, job_of}

-- all that the rows look through: the arithmetic and the plane, joins, the source's tests, and the walk
unfoldable pub reckoned : Unit {0}
unfolding of_bits neg add sub mul div lt le eq when◌give◌else◌ ◌and◌ ◌or◌ abs_of within finite sqrt_of ◌⊞◌ ◌⊟◌ ◌⊡◌ dot cross perp length_squared_of length_of normalized unit_perp near
reckoned = tt

unfoldable pub joined : Unit {0}
unfolding in_span line_line point_at bulge_is_zero offset_line offset_seg line_line_meeting clamp_param meeting_point clamp_cos clamp_sin bulge_size connector_bulge_of tangent_turn turn_of rounded join_of distance_squared within_ratio pointed_if cornered corner_join
joined = tt

unfoldable pub judged : Unit {0}
unfolding vertices_of segments_of around inside good_vertex good_offset good_eps number_tests repeats neighbour_tests repeat_tests first_from room_for has_room verdict_of roomy_verdict distinct_verdict finite_verdict job_of
judged = tt

unfoldable pub walked : Unit {0}
unfolding span_reason span_move connector_move tip_move tip_moves connector_moves join_at walk open_last closed_last last_vertex closing_join walk_start walk_moves walk_drawing lone_collapsed drawing_of
walked = tt

unfoldable pub laid : Unit {0}
unfolding Moves.kept Moves.last_point corners flags_of marks origins_of drawn_open drawn_closed finite_vertex all_finite flat shown
laid = tt

-- a job, at ε = 1e-5, and what it gives: its room, the numbers of its vertices, flags, indexes, origins, closed mark
pub record Row : Type 0 where
  pub closed : Bool
  pub source : List Float
  pub settings : Settings
  pub places : ℕ
  pub vertices : List Float
  pub flags : List ℕ
  pub indexes : List ℕ
  pub origins : List Origin
  pub mark : Bool

abbrev pub eps : Float
eps = of_bits binary64 0x3ee4_f8b5_88e3_68f1

eps_nearest : eps ≡ round binary64 false 1 (10 ^ 5)
unfolding of_bits round
eps_nearest = refl

abbrev pub minus_one : Float
minus_one = of_bits binary64 0xbff0_0000_0000_0000

abbrev pub five : Float
five = of_bits binary64 0x4014_0000_0000_0000

-- any number, by its bits
abbrev f : ℕ → Float
f bits = of_bits binary64 bits

abbrev pub three : Float
three = of_bits binary64 0x4008_0000_0000_0000

-- a vertex with a bulge, and one with bulge 0
abbrev pub bent : Float → Float → Float → List Float → List Float
bent x y b rest = x ∷ y ∷ b ∷ rest

abbrev pub at : Float → Float → List Float → List Float
at x y rest = bent x y zero rest

-- a span and a connector
abbrev pub span : ℕ → Origin
span i = Span (record { 0 = i })

abbrev pub link : ℕ → Origin
link i = Connector (record { 0 = i })

-- what stands in the buffers before: 7, 9 and the connector of segment 9, in its room and one place more
abbrev pub before : Row → Buffers
before r = buffers (lent (replicate (3 * r.places + 3) (of_bits binary64 0x401c_0000_0000_0000))) (replicate (r.places + 1) 9) (replicate (r.places + 1) 9) (replicate (r.places + 1) (link 9))

-- and after: xs, zeros in the places up to n that are left, and the others as before
abbrev pub filled : {A : Type 0} → A → ℕ → List A → List A → List A
filled z n xs others = xs ++ replicate (n - length xs) z ++ others

abbrev pub after : Row → Buffers
after r =
    let seven : Float = of_bits binary64 0x401c_0000_0000_0000 in
    buffers (lent (filled zero (3 * r.places) r.vertices (seven ∷ seven ∷ seven ∷ []))) (filled 0 r.places r.flags (9 ∷ [])) (filled 0 r.places r.indexes (9 ∷ []))
    (filled (span 0) r.places r.origins (link 9 ∷ []))

abbrev pub worked : Row → Outcome
worked r = job_of (lent r.source) r.closed r.settings (before r)

abbrev pub written : Row → Outcome
written r = record { answer = Ok (record { vertices = length r.vertices / 3; indexes = length r.indexes; closed = r.mark }); buffers = after r }

abbrev pub line : List Float
line = at zero zero (at four zero [])

abbrev pub square : List Float
square = at zero zero (at four zero (at four four (at zero four [])))

abbrev pub sides : List Origin
sides = span 0 ∷ span 1 ∷ span 2 ∷ span 3 ∷ []

abbrev pub row : Bool → List Float → Float → ℕ → List Float → List ℕ → List ℕ → List Origin → Bool → Row
row c s o n vs fs is os m = record { closed = c; source = s; settings = round_by o eps; places = n; vertices = vs; flags = fs; indexes = is; origins = os; mark = m }

abbrev pub rows : List Row
rows =
    row false line one 2 (at zero one (at four one [])) (0 ∷ []) [] (span 0 ∷ []) false ∷
    row false line minus_one 2 (at zero minus_one (at four minus_one [])) (0 ∷ []) [] (span 0 ∷ []) false ∷
    row false (at zero zero (at four zero (at four four []))) one 4 (at zero one (at three one (at three four []))) (0 ∷ 0 ∷ []) [] (span 0 ∷ span 1 ∷ []) false ∷
    row false (at zero zero (at four zero (at eight zero []))) one 4 (at zero one (at four one (at eight one []))) (0 ∷ 0 ∷ []) [] (span 0 ∷ span 1 ∷ []) false ∷
    row false (at zero zero (at four zero (at zero zero []))) one 4 (at zero one (bent four one minus_one (at four minus_one (at zero minus_one [])))) (0 ∷ 0 ∷ 0 ∷ []) [] (span 0 ∷ link 0 ∷ span 1 ∷ []) false ∷
    row false (at zero zero (at four zero (at four one []))) two 4 (at zero two (at four two (at two zero (at two one [])))) (0 ∷ 1 ∷ 0 ∷ []) (1 ∷ []) (span 0 ∷ link 0 ∷ span 1 ∷ []) false ∷
    row true square one 8 (at one one (at three one (at three three (at one three [])))) (0 ∷ 0 ∷ 0 ∷ 0 ∷ []) [] sides true ∷
    row true square three 8 (at three three (at one three (at one one (at three one [])))) (1 ∷ 1 ∷ 1 ∷ 1 ∷ []) (0 ∷ 1 ∷ 2 ∷ 3 ∷ []) sides true ∷
    row true square two 8 [] [] [] [] false ∷
    []

pub p_rows : map worked rows ≡ map written rows
unfolding reckoned joined judged walked laid
p_rows = refl

-- ---- 02's 2026-13, by the same words: a closed square, whose four tips lie at √2 of the offset, up to ratios 2 and 1; and both sides of the test equal, at a ratio of 1.25
abbrev pub sharp : Bool → List Float → Float → Float → ℕ → List Float → List ℕ → List Origin → Row
sharp c s o ratio n vs fs os = record { closed = c; source = s; settings = pointed_by o eps ratio; places = n; vertices = vs; flags = fs; indexes = []; origins = os; mark = c }

-- a round corner's bulge, of either side
abbrev pub quarter : Float
quarter = of_bits binary64 0x3fda_8279_99fc_ef33

abbrev pub outside : List Origin
outside = span 0 ∷ link 0 ∷ link 0 ∷ span 1 ∷ link 1 ∷ link 1 ∷ span 2 ∷ link 2 ∷ link 2 ∷ span 3 ∷ link 3 ∷ link 3 ∷ []

abbrev pub pointed : List Row
pointed =
    sharp true square minus_one two 12
    (at zero minus_one (at four minus_one (at five minus_one (at five zero (at five four (at five five (at four five (at zero five (at minus_one five (at minus_one four (at minus_one zero (at minus_one minus_one []))))))))))))
    (replicate 12 0) outside ∷
    sharp true square minus_one one 12
    (at zero minus_one (bent four minus_one quarter (at five zero (bent five four quarter (at four five (bent zero five quarter (at minus_one four (bent minus_one zero quarter []))))))))
    (replicate 8 0) (span 0 ∷ link 0 ∷ span 1 ∷ link 1 ∷ span 2 ∷ link 2 ∷ span 3 ∷ link 3 ∷ []) ∷
    sharp false (at zero zero (at (f 0x4024_0000_0000_0000) zero (at (f 0x4031_0000_0000_0000) (f 0xc038_0000_0000_0000) []))) (f 0x4039_0000_0000_0000) (f 0x3ff4_0000_0000_0000) 6
    (at zero (f 0x4039_0000_0000_0000) (at (f 0x4024_0000_0000_0000) (f 0x4039_0000_0000_0000) (at (f 0x403c_c000_0000_0000) (f 0x4039_0000_0000_0000) (at (f 0x4041_0000_0000_0000) (f 0x401c_0000_0000_0001) (at (f 0x4044_8000_0000_0000) (f 0xc031_0000_0000_0000) [])))))
    (0 ∷ 0 ∷ 0 ∷ 0 ∷ []) (span 0 ∷ link 0 ∷ link 0 ∷ span 1 ∷ []) ∷
    []

pub pointed-rows : map worked pointed ≡ map written pointed
unfolding reckoned joined judged walked laid
pointed-rows = refl
