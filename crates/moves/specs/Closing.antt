-- The closing rule in 01's own order (§2, Closing), on the vertices of the walk; `proofs/Closing.antt` shows that it draws what `drawn_closed` does. Definitions only.
use Rattle.std.specs.Prelude.{◌-◌, List, [], ◌∷◌, ◌++◌, true, leb, length, take, Float}
use Rattle.floats.specs.Binary64.{zero}
use Rattle.floats.specs.Choice.{when◌give◌else◌}
use Rattle.vectors.specs.Plane.{near}
use Rattle.vectors.specs.declared.Vector2.{Vector2}
use Rattle.segments.specs.declared.PlineVertex.{PlineVertex}
use Rattle.segments.specs.Vertex.{vertex_at}
use Rattle.moves.specs.declared.Move.{Move}
use Rattle.moves.specs.Reason.{invalid_move}
use Rattle.moves.specs.Drawing.{Drawing, nothing, last_point, corners, flags_of, bit, mark, marks, origins_of}

-- the vertices of the kept moves ks from p, the last one with bulge 0
abbrev pub walked : Vector2 → List Move → List PlineVertex
walked p ks = corners p ks ++ vertex_at (last_point p ks) zero ∷ []

-- the last vertex removed: the segment into it now ends at the first vertex
abbrev pub last_removed : List PlineVertex → List PlineVertex
last_removed vs = take (length vs - 1) vs

-- a lone vertex gives an empty open answer
unfoldable pub lone : Drawing → Drawing
lone d = when leb (length d.vertices) 1 give nothing else d

-- The closing move c, which ends at the first vertex p: where the last kept point is within e of p, it is dropped and, with more than one vertex, the last one is
-- removed; otherwise its bulge goes on the last vertex, and it has a flag, an origin and, where it is invalid, an index.
unfoldable pub closed_by : Float → Vector2 → List Move → Move → Drawing
closed_by e p ks c =
    lone
    (when near (last_point p ks) p e give record {
      vertices = when leb 2 (length (walked p ks)) give last_removed (walked p ks) else walked p ks;
      flags = flags_of ks;
      indexes = marks 0 ks;
      origins = origins_of ks;
      closed = true;
    } else record {
      vertices = corners p ks ++ vertex_at (last_point p ks) c.bulge ∷ [];
      flags = flags_of ks ++ bit (invalid_move c) ∷ [];
      indexes = marks 0 ks ++ mark (invalid_move c) (length ks) [];
      origins = origins_of ks ++ c.origin ∷ [];
      closed = true;
    })
