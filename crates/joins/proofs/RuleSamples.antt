-- Each rule on each side, for a line and an arc, an arc and a line, and two arcs; worked out from 000 apart from the definitions. All meet at (0, 2): the line from (−4, 2) to
-- (4, 2) touches the circle about the origin there, and so does the circle about (0, 4). An arc that is given here by its numbers need not end where its sweep does. Assumes nothing.
use mathlib.Core.Path.{◌≡◌, refl}
use mathlib.Core.List.{List, [], ◌∷◌, map}
use lib.Ieee.{Float, binary64, of_bits, neg}
use Rattle.std.specs.Prelude.{Option, None, Some}
use Rattle.floats.specs.Binary64.{zero, two, four}
use Rattle.vectors.specs.declared.Vector2.{Vector2}
use Rattle.angles.specs.Angle.{quarter_turn}
use Rattle.segments.specs.declared.RawOffsetSeg.{RawOffsetSeg}
use Rattle.segments.specs.declared.RawOffsetSeg.TheVariants.{Line, Arc}
use Rattle.meetings.specs.declared.ArcRule.{ArcRule}
use Rattle.meetings.specs.declared.ArcRule.TheVariants.{StartMatched, EndMatched, Inside, PastEnd}
use Rattle.meetings.proofs.Samples.{opened, at, −two, −four, π, half_π, ε}
use Rattle.joins.specs.Join.{inner_join}
use Rattle.joins.specs.Rules.{ruled_boundary}

-- a segment, with the rule by which it lets (0, 2) in
abbrev Side : Type 0
Side = RawOffsetSeg × Option ArcRule

abbrev line : Side
line = (Line (record { start = at −four two; end = at four two }), None)

-- about the origin, where (0, 2) lies at a quarter turn
abbrev below : Vector2 → Vector2 → Float → Float → RawOffsetSeg
below a b φ sweep = Arc (record { start = a; end = b; center = at zero zero; radius = two; start_angle = φ; sweep = sweep })

-- about (0, 4), where it lies at a quarter turn the other way
abbrev above : Vector2 → Vector2 → Float → Float → RawOffsetSeg
above a b φ sweep = Arc (record { start = a; end = b; center = at zero four; radius = two; start_angle = φ; sweep = sweep })

-- an end there, or run to there exactly, or one unit short of it
abbrev starting : Side
starting = (below (at zero two) (at −two zero) half_π half_π, Some StartMatched)

abbrev ending : Side
ending = (below (at two zero) (at zero two) zero half_π, Some EndMatched)

abbrev reaching : Side
reaching = (below (at two zero) (at −two zero) zero half_π, Some Inside)

abbrev short : Side
short = (below (at two zero) (at −two zero) zero (of_bits binary64 0x3ff9_21fb_5444_2d17), Some PastEnd)

-- these four, both ends there, and nothing run as yet
abbrev lower : List Side
lower =
    starting ∷ ending ∷ reaching ∷ short ∷
    (below (at zero two) (at zero two) half_π (of_bits binary64 0x4018_0000_0000_0000), Some StartMatched) ∷
    (below (at two zero) (at −two zero) half_π half_π, Some Inside) ∷
    []

abbrev upper : List Side
upper =
    (above (at zero two) (at two four) (neg half_π) half_π, Some StartMatched) ∷
    (above (at −two four) (at zero two) (neg π) half_π, Some EndMatched) ∷
    (above (at −two four) (at two four) (neg π) half_π, Some Inside) ∷
    (above (at −two four) (at two four) (neg π) (of_bits binary64 0x3ff9_21fb_5444_2d17), Some PastEnd) ∷
    []

-- the rules that their join tells, where they do meet
abbrev rules : Side → Side → Option ArcRule × Option ArcRule
rules g h = let j = ruled_boundary g.0 h.0 ε (inner_join g.0 h.0 (at zero two) ε) in (j.current_rule, j.next_rule)

abbrev Tells : Side → List Side → Type 0
Tells g hs = map (λ (h : Side). rules g h) hs ≡ map (λ (h : Side). (g.1, h.1)) hs

-- ---- a line, then an arc; an arc, then a line
pub line-arc_rules : Tells line lower
unfolding opened quarter_turn ruled_boundary
line-arc_rules = refl

pub arc-line_rules : map (λ (g : Side). rules g line) lower ≡ map (λ (g : Side). (g.1, line.1)) lower
unfolding opened quarter_turn ruled_boundary
arc-line_rules = refl

-- ---- two arcs
pub start_rules : Tells starting upper
unfolding opened quarter_turn ruled_boundary
start_rules = refl

pub end_rules : Tells ending upper
unfolding opened quarter_turn ruled_boundary
end_rules = refl

pub inside_rules : Tells reaching upper
unfolding opened quarter_turn ruled_boundary
inside_rules = refl

pub past_rules : Tells short upper
unfolding opened quarter_turn ruled_boundary
past_rules = refl
