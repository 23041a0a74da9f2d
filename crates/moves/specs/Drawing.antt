-- What kept moves draw: vertices, a flag for each segment, the numbers of the invalid ones, an origin for each segment (02's 2026-09), and the closed mark (01 §2). Definitions only.
use Rattle.std.specs.Prelude.{ℕ, suc, List, [], ◌∷◌, ◌++◌, Bool, true, false, length, Float}
use Rattle.floats.specs.Binary64.{zero}
use Rattle.floats.specs.Choice.{◌and◌}
use Rattle.floats.specs.Size.{finite}
use Rattle.vectors.specs.Plane.{near}
use Rattle.vectors.specs.declared.Vector2.{Vector2}
use Rattle.segments.specs.declared.PlineVertex.{PlineVertex}
use Rattle.segments.specs.Vertex.{vertex_at}
use Rattle.moves.specs.declared.Move.{Move}
use Rattle.moves.specs.declared.Origin.{Origin}
use Rattle.moves.specs.declared.RawOffsetResult.{RawOffsetResult}
use Rattle.moves.specs.Reason.{invalid_move}
use Rattle.moves.specs.Moves as M

-- where a move ends
abbrev pub move_end : Move → Vector2
move_end m = m.end

-- the moves that are kept at tolerance e, from p on
abbrev pub kept : Float → Vector2 → List Move → List Move
kept e p ms = M.kept move_end (λ a b. near a b e) p ms

abbrev pub last_point : Vector2 → List Move → Vector2
last_point p ms = M.last_point move_end p ms

-- a vertex for each kept move: the point that it leaves, with its bulge
unfoldable pub corners : Vector2 → List Move → List PlineVertex
corners p [] = []
corners p (m ∷ ms) = vertex_at p m.bulge ∷ corners m.end ms

-- a flag for each kept move: 1 where it is invalid
abbrev pub bit : Bool → ℕ
bit true = 1
bit false = 0

unfoldable pub flags_of : List Move → List ℕ
flags_of [] = []
flags_of (m ∷ ms) = bit (invalid_move m) ∷ flags_of ms

-- the numbers of the invalid ones, in order, the first move having the number k
abbrev pub mark : Bool → ℕ → List ℕ → List ℕ
mark true k is = k ∷ is
mark false k is = is

unfoldable pub marks : ℕ → List Move → List ℕ
marks k [] = []
marks k (m ∷ ms) = mark (invalid_move m) k (marks (suc k) ms)

-- an origin for each kept move
unfoldable pub origins_of : List Move → List Origin
origins_of [] = []
origins_of (m ∷ ms) = m.origin ∷ origins_of ms

pub record Drawing : Type 0 where
  pub vertices : List PlineVertex
  pub flags : List ℕ
  pub indexes : List ℕ
  pub origins : List Origin
  pub closed : Bool

-- an empty open drawing
abbrev pub nothing : Drawing
nothing = record { vertices = []; flags = []; indexes = []; origins = []; closed = false }

-- Open: a last vertex with bulge 0 stands where the kept moves end. A lone vertex draws nothing.
unfoldable pub drawn_open : Vector2 → List Move → Drawing
drawn_open p [] = nothing
drawn_open p (m ∷ ms) = record {
  vertices = corners p (m ∷ ms) ++ vertex_at (last_point p (m ∷ ms)) zero ∷ [];
  flags = flags_of (m ∷ ms);
  indexes = marks 0 (m ∷ ms);
  origins = origins_of (m ∷ ms);
  closed = false;
}

-- Closed, the closing move being one of the moves: a point that no kept move leaves is no vertex. A lone vertex draws nothing.
unfoldable pub drawn_closed : Vector2 → List Move → Drawing
drawn_closed p [] = nothing
drawn_closed p (m ∷ []) = nothing
drawn_closed p (m ∷ m' ∷ ms) = record {
  vertices = corners p (m ∷ m' ∷ ms);
  flags = flags_of (m ∷ m' ∷ ms);
  indexes = marks 0 (m ∷ m' ∷ ms);
  origins = origins_of (m ∷ m' ∷ ms);
  closed = true;
}

-- no NaN and no infinity among the numbers of a vertex, and of vertices
unfoldable pub finite_vertex : PlineVertex → Bool
finite_vertex v = finite v.x and finite v.y and finite v.bulge

unfoldable pub all_finite : List PlineVertex → Bool
all_finite [] = true
all_finite (v ∷ vs) = finite_vertex v and all_finite vs

-- the empty open answer
abbrev pub empty_result : RawOffsetResult
empty_result = record { vertices = 0; indexes = 0; closed = false }

-- the counts and the closed mark of a drawing
abbrev pub result_of : Drawing → RawOffsetResult
result_of d = record { vertices = length d.vertices; indexes = length d.indexes; closed = d.closed }
