-- The strokes of kept moves: their vertices are the corners of the drawing, and one row of them after another is the row of both. Assumes nothing.
use mathlib.Core.Path.{◌≡◌, refl, ap}
use mathlib.Core.List.{List, [], ◌∷◌, ◌++◌, map}
use Prim.Native.Nat.{ℕ, suc, ◌+◌}
use native.Mathlib.Nat.{add-suc, suc-add, add-zero}
use lib.ListN.{length}
use Rattle.vectors.specs.declared.Vector2.{Vector2}
use Rattle.segments.specs.declared.PlineVertex.{PlineVertex}
use Rattle.moves.specs.declared.Move.{Move}
use Rattle.moves.specs.declared.Stroke.{Stroke}
use Rattle.moves.specs.Moves as M
use Rattle.moves.specs.Drawing.{last_point, corners}
use Rattle.moves.specs.InnerSteps.{stroke_of, strokes}

pub strokes-append : (k : ℕ) (p : Vector2) (ms ns : List Move) → strokes k p (ms ++ ns) ≡ strokes k p ms ++ strokes (k + length ms) (last_point p ms) ns
unfolding strokes M.last_point
strokes-append k p [] ns = rw add-zero
strokes-append k p (m ∷ ms) ns =
    ap (λ (t : List Stroke). stroke_of (record { last = p; number = record { 0 = k } }) m ∷ t) (rw (add-suc, ← suc-add) (strokes-append (suc k) m.end ms ns))

pub strokes-corners : (k : ℕ) (p : Vector2) (ms : List Move) → map (λ (s : Stroke). s.vertex) (strokes k p ms) ≡ corners p ms
unfolding strokes corners
strokes-corners k p [] = refl
strokes-corners k p (m ∷ ms) = ap (λ (t : List PlineVertex). (stroke_of (record { last = p; number = record { 0 = k } }) m).vertex ∷ t) (strokes-corners (suc k) m.end ms)

pub strokes-length : (k : ℕ) (p : Vector2) (ms : List Move) → length (strokes k p ms) ≡ length ms
unfolding strokes
strokes-length k p [] = refl
strokes-length k p (m ∷ ms) = ap suc (strokes-length (suc k) m.end ms)
