-- The two kinds of move, each tagged with the source segment that it belongs to: its span, or the connector after it (000's emit_source_span and emit_join).
-- Definitions only.
use Rattle.std.specs.Prelude.{ℕ, List, [], ◌∷◌, ◌++◌, Bool, true, false, Float}
use Rattle.floats.specs.Binary64 as B
use Rattle.floats.specs.Choice.{when◌give◌else◌}
use Rattle.vectors.specs.declared.Vector2.{Vector2}
use Rattle.segments.specs.declared.RawOffsetSeg.{RawOffsetSeg}
use Rattle.segments.specs.Segment.{span_bulge}
use Rattle.joins.specs.declared.JoinBoundary.{JoinBoundary}
use Rattle.joins.specs.Corner.{is_pointed}
use Rattle.moves.specs.declared.Move.{Move}
use Rattle.moves.specs.declared.Origin.{Origin}
use Rattle.moves.specs.declared.Origin.TheVariants.{Span, Connector}
use Rattle.moves.specs.Reason.{span_reason, connector_reason}

-- the number of that segment, and whether it is the connector
abbrev pub segment_of : Origin → ℕ
segment_of (Span i) = i.0
segment_of (Connector i) = i.0

abbrev pub is_connector : Origin → Bool
is_connector (Span i) = false
is_connector (Connector i) = true

-- the span of segment i between two parameters: its bulge goes by its sweep
unfoldable pub span_move : ℕ → RawOffsetSeg → Float → Vector2 → Float → Move
span_move i g from end to = record { end = end; bulge = span_bulge g from to; reason = span_reason g from to; origin = Span (record { 0 = i }) }

-- the connector of the join after segment i
unfoldable pub connector_move : ℕ → JoinBoundary → Move
connector_move i j = record { end = j.next_start; bulge = j.connector_bulge; reason = connector_reason j.cause; origin = Connector (record { 0 = i }) }

-- where that join has a tip (02's 2026-13), a straight connector to it goes before
unfoldable pub tip_move : ℕ → JoinBoundary → Move
tip_move i j = record { end = j.tip; bulge = B.zero; reason = connector_reason j.cause; origin = Connector (record { 0 = i }) }

unfoldable pub tip_moves : ℕ → JoinBoundary → List Move
tip_moves i j = when is_pointed j.cause give tip_move i j ∷ [] else []

-- all connectors of that join: one, or two
unfoldable pub connector_moves : ℕ → JoinBoundary → List Move
connector_moves i j = tip_moves i j ++ connector_move i j ∷ []
