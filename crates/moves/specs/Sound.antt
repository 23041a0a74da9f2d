-- What demand 3 says of a drawing of kept moves. Definitions only.
use Rattle.std.specs.Prelude.{◌≡◌, ◌↔◌, Bool, true, false, ℕ, zero, suc, ◌+◌, ◌-◌, ◌≤◌, ◌<◌, length, get_or, Float}
use mathlib.Core.List.{List, [], ◌∷◌, map, Memᴰ}
use Rattle.floats.specs.Choice.{when◌give◌else◌}
use Rattle.vectors.specs.Plane.{near}
use Rattle.segments.specs.Vertex.{pos_of}
use Rattle.moves.specs.declared.Move.{Move}
use Rattle.moves.specs.Reason.{invalid_move}
use Rattle.moves.specs.Drawing.{Drawing, bit, origins_of}
use Rattle.moves.specs.Choice.{Apart, Rising}

-- move i of a row is there and is invalid
unfoldable pub invalid_at : List Move → ℕ → Bool
invalid_at [] i = false
invalid_at (m ∷ ms) zero = invalid_move m
invalid_at (m ∷ ms) (suc i) = invalid_at ms i

-- how many moves of a row are invalid
unfoldable pub invalids : List Move → ℕ
invalids [] = 0
invalids (m ∷ ms) = bit (invalid_move m) + invalids ms

-- how many segments a drawing has: a closed one has one for each vertex, an open one has one fewer
unfoldable pub segment_count : Drawing → ℕ
segment_count d = when d.closed give length d.vertices else length d.vertices - 1

-- A drawing of the kept moves ks at tolerance e: it never has one vertex, and neighbours are never within e; each kept move is a segment with a flag; the indexes rise,
-- are as many as the invalid moves, and are the places of the flags that are set and of the moves that are invalid; the origins are those of the kept moves, in order.
pub record Sound (e : Float) (ks : List Move) (d : Drawing) : Type 0 where
  pub never_one : length d.vertices ≡ 1 → ⊥
  pub apart : Apart (λ a b. near a b e) (map pos_of d.vertices)
  pub segments : segment_count d ≡ length ks
  pub flags : length d.flags ≡ segment_count d
  pub bits : (i : ℕ) → get_or d.flags i 0 ≤ 1
  pub indexes : length d.indexes ≡ invalids ks
  pub rising : Rising 0 d.indexes
  pub flagged : (i : ℕ) → Memᴰ i d.indexes ↔ (get_or d.flags i 0 ≡ 1)
  pub invalid : (i : ℕ) → Memᴰ i d.indexes ↔ (invalid_at ks i ≡ true)
  pub below : (i : ℕ) → Memᴰ i d.indexes → i < segment_count d
  pub origins : d.origins ≡ origins_of ks
