-- The corners of a source and where its spans start and end, by the numbers of its segments (02's 2026-01): what a walk tells beside its moves. They are read off the vertices;
-- that the moves of `walk_moves` are made of these is shown in `proofs/Branches.antt`. Definitions only.
use Rattle.std.specs.Prelude.{List, [], ◌∷◌, ◌++◌, map, Bool, Option, None, Float}
use Rattle.floats.specs.Binary64.{zero, one}
use Rattle.floats.specs.Choice.{when◌give◌else◌}
use Rattle.vectors.specs.declared.Vector2.{Vector2}
use Rattle.segments.specs.declared.Settings.{Settings}
use Rattle.segments.specs.declared.PlineVertex.{PlineVertex}
use Rattle.segments.specs.declared.RawOffsetSeg.{RawOffsetSeg}
use Rattle.segments.specs.Vertex.{pos_of}
use Rattle.segments.specs.Segment.{offset_seg}
use Rattle.meetings.specs.declared.ArcRule.{ArcRule}
use Rattle.joins.specs.declared.JoinBoundary.{JoinBoundary}
use Rattle.joins.specs.Rules.{ruled_join}
use Rattle.walk.specs.Walk.{last_vertex}

-- ---- corners

-- two segments that are joined, and the vertex that they share
pub record Corner : Type 0 where
  pub current : RawOffsetSeg
  pub next : RawOffsetSeg
  pub shared : Vector2

-- at b, from a and on to c
abbrev pub corner_at : Settings → PlineVertex → PlineVertex → PlineVertex → Corner
corner_at σ a b c = record { current = offset_seg a b σ.offset; next = offset_seg b c σ.offset; shared = pos_of b }

-- the join there, with its rules
abbrev pub join_in : Settings → Corner → JoinBoundary
join_in σ k = ruled_join k.current k.next k.shared σ

-- a walk from a by b over the vertices after it: those of a source, and, closed, its first one again
abbrev pub turns_to : Bool → PlineVertex → List PlineVertex → List PlineVertex
turns_to closed a vs = when closed give vs ++ a ∷ [] else vs

unfoldable pub corners_from : Settings → PlineVertex → PlineVertex → List PlineVertex → List Corner
corners_from σ a b [] = []
corners_from σ a b (c ∷ vs) = corner_at σ a b c ∷ corners_from σ b c vs

-- where a closed source a, b, vs closes: from its last segment on to its first
abbrev pub closing_corner : Settings → PlineVertex → PlineVertex → List PlineVertex → Corner
closing_corner σ a b vs = corner_at σ (last_vertex b vs) a b

-- corner i comes after segment i; the closing one, if the source is closed, is the last
unfoldable pub corners_of : Bool → Settings → PlineVertex → PlineVertex → List PlineVertex → List Corner
corners_of closed σ a b vs = corners_from σ a b (turns_to closed a vs) ++ (when closed give closing_corner σ a b vs ∷ [] else [])

-- ---- segments and their spans

unfoldable pub segs_from : Settings → PlineVertex → PlineVertex → List PlineVertex → List RawOffsetSeg
segs_from σ a b [] = offset_seg a b σ.offset ∷ []
segs_from σ a b (c ∷ vs) = offset_seg a b σ.offset ∷ segs_from σ b c vs

unfoldable pub segs_of : Bool → Settings → PlineVertex → PlineVertex → List PlineVertex → List RawOffsetSeg
segs_of closed σ a b vs = segs_from σ a b (turns_to closed a vs)

-- where a span starts or ends: its parameter there, and the rule by which its arc was trimmed there
pub record Edge : Type 0 where
  pub param : Float
  pub rule : Option ArcRule

-- at a join: of the span after it, and of the span before it
abbrev pub start_at : JoinBoundary → Edge
start_at j = record { param = j.next_param; rule = j.next_rule }

abbrev pub end_at : JoinBoundary → Edge
end_at j = record { param = j.current_param; rule = j.current_rule }

-- where there is no join
abbrev pub whole_start : Edge
whole_start = record { param = zero; rule = None }

abbrev pub whole_end : Edge
whole_end = record { param = one; rule = None }

-- where the span of segment i starts, and where it ends
unfoldable pub starts_of : Bool → Settings → PlineVertex → PlineVertex → List PlineVertex → List Edge
starts_of closed σ a b vs =
    (when closed give start_at (join_in σ (closing_corner σ a b vs)) else whole_start) ∷ map (λ (k : Corner). start_at (join_in σ k)) (corners_from σ a b (turns_to closed a vs))

unfoldable pub ends_of : Bool → Settings → PlineVertex → PlineVertex → List PlineVertex → List Edge
ends_of closed σ a b vs =
    map (λ (k : Corner). end_at (join_in σ k)) (corners_from σ a b (turns_to closed a vs)) ++ (when closed give end_at (join_in σ (closing_corner σ a b vs)) else whole_end) ∷ []
