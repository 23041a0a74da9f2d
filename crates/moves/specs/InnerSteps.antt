-- What the pen does with one move, and the strokes that a row of kept moves is drawn by. No rule rests on these: `proofs/Strokes.antt` ties them to the lists of
-- `Drawing`. Definitions only.
use Rattle.std.specs.Prelude.{◌≡◌, ℕ, suc, ◌+◌, ◌≤◌, List, [], ◌∷◌, Bool, true, false, not, pos, length, Float}
use Rattle.std.specs.Float.{nan, fin}
use Rattle.std.specs.Float.Ieee.{is_nan}
use Rattle.floats.specs.Binary64 as B
use Rattle.floats.specs.Choice.{when◌give◌else◌}
use Rattle.vectors.specs.Plane.{near}
use Rattle.vectors.specs.declared.Vector2.{Vector2}
use Rattle.segments.specs.Vertex.{vertex_at}
use Rattle.joins.specs.declared.JoinBoundary.{JoinBoundary}
use Rattle.joins.specs.Corner.{is_pointed}
use Rattle.moves.specs.declared.Move.{Move}
use Rattle.moves.specs.declared.Pen.{Pen}
use Rattle.moves.specs.declared.Stroke.{Stroke}
use Rattle.moves.specs.declared.Stepped.{Stepped}
use Rattle.moves.specs.Drawing.{Drawing}

-- the pen at the first vertex
abbrev pub pen_at : Vector2 → Pen
pen_at p = record { last = p; number = record { 0 = 0 } }

-- what is drawn of a kept move: the point that it leaves with its bulge, its reason and origin, and its number
abbrev pub stroke_of : Pen → Move → Stroke
stroke_of pen m = record { vertex = vertex_at pen.last m.bulge; reason = m.reason; origin = m.origin; number = pen.number }

-- the pen after a kept move
unfoldable pub pen_after : Pen → Move → Pen
pen_after pen m = record { last = m.end; number = record { 0 = pen.number.0 + 1 } }

-- a move that ends within e of the last kept point is dropped, any other is kept
unfoldable pub step_of : Pen → Move → Float → Stepped
step_of pen m e =
    record { kept = not (near pen.last m.end e); stroke = stroke_of pen m; pen = when near pen.last m.end e give pen else pen_after pen m }

-- the strokes of kept moves from p on, the first having the number k
unfoldable pub strokes : ℕ → Vector2 → List Move → List Stroke
strokes k p [] = []
strokes k p (m ∷ ms) = stroke_of (record { last = p; number = record { 0 = k } }) m ∷ strokes (suc k) m.end ms

-- a move with another bulge
abbrev pub with_bulge : Float → Move → Move
with_bulge b m = record { end = m.end; bulge = b; reason = m.reason; origin = m.origin }

-- the move to a tip, before the connector m; that of a join, if it has one
abbrev pub tip_before : Move → Vector2 → Move
tip_before m p = record { end = p; bulge = B.zero; reason = m.reason; origin = m.origin }

unfoldable pub tip_first : JoinBoundary → Move → List Move
tip_first j m = when is_pointed j.cause give tip_before m j.tip ∷ [] else []

-- a doubt: +0 where a test holds, and else a NaN
abbrev pub doubt_of : Bool → Float
doubt_of true = fin false 0 (pos 0)
doubt_of false = nan

-- there is none in x
abbrev pub sure : Float → Bool
sure x = not (is_nan x)

-- a drawing fits `room` places, and has as many origins as flags
pub record Fits (room : ℕ) (d : Drawing) : Type 0 where
  pub vertices : length d.vertices ≤ room
  pub flags : length d.flags ≤ room
  pub indexes : length d.indexes ≤ room
  pub origins : length d.origins ≡ length d.flags
