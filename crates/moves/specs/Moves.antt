-- Which moves of a walk are kept, and where the kept ones end (01 §2). Over any kind of move that has an end, and any nearness. Definitions only.
use Rattle.std.specs.Prelude.{List, [], ◌∷◌, Bool, true, false}

-- A move whose end is close to the last kept point p is dropped; any other is kept, and its end is then the last kept point.
unfoldable pub kept : {M P : Type 0} → (M → P) → (P → P → Bool) → P → List M → List M
kept end close p [] = []
kept end close p (m ∷ ms) = elim (close p (end m)) [ true ↦ kept end close p ms | false ↦ m ∷ kept end close (end m) ms ]

-- the point where a row of moves from p ends
unfoldable pub last_point : {M P : Type 0} → (M → P) → P → List M → P
last_point end p [] = p
last_point end p (m ∷ ms) = last_point end (end m) ms
