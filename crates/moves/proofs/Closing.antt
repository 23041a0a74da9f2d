-- 01's closing rule, in its own order, draws what the kept moves draw with the closing move among them: for every walk whose closing move ends at the first vertex
-- (`closing-rule`). Assumes nothing.
use mathlib.Core.Path.{◌≡◌, refl, sym, ap, ◌∙◌}
use mathlib.Core.List.{List, [], ◌∷◌, ◌++◌, append-nil}
use mathlib.Core.Bool.{Bool, true, false}
use Prim.Native.Nat.{◌-◌}
use native.Mathlib.Nat.{zero-add}
use native.Mathlib.Omega.{arith}
use borrow.Author.Tests.{le-leb, lt-leb}
use lib.Dec.{leb}
use lib.ListN.{length, length-append}
use lib.Seq.{take_at}
use lib.Ieee.{Float}
use Rattle.floats.specs.Binary64.{zero}
use Rattle.floats.specs.Choice.{when◌give◌else◌}
use Rattle.vectors.specs.Plane.{near}
use Rattle.vectors.specs.declared.Vector2.{Vector2}
use Rattle.segments.specs.Vertex.{vertex_at}
use Rattle.moves.specs.declared.Move.{Move}
use Rattle.moves.specs.Reason.{invalid_move}
use Rattle.moves.specs.Drawing.{Drawing, move_end, kept, last_point, corners, flags_of, bit, mark, marks, origins_of, drawn_closed}
use Rattle.moves.specs.Closing.{walked, last_removed, lone, closed_by}
use Rattle.moves.proofs.Kept as K
use Rattle.moves.proofs.Lists.{corners-snoc, flags_of-snoc, marks-snoc, origins_of-snoc}

-- the closing move is kept where the last kept point is not near the first vertex
pub closing : (e : Float) (p : Vector2) (ms : List Move) (c : Move) → c.end ≡ p
    → kept e p (ms ++ c ∷ []) ≡ when near (last_point p (kept e p ms)) p e give kept e p ms else kept e p ms ++ c ∷ []
unfolding when◌give◌else◌
closing e p ms c h = K.kept_append move_end (λ x y. near x y e) p ms (c ∷ []) ∙ by (near q p e) refl
  where
    q : Vector2
    q = last_point p (kept e p ms)

    by : (b : Bool) → near q p e ≡ b → kept e p ms ++ kept e q (c ∷ []) ≡ when b give kept e p ms else kept e p ms ++ c ∷ []
    by true k = rw (K.kept-one-near move_end (λ x y. near x y e) q c (ap (λ x. near q x e) h ∙ k)) (append-nil (kept e p ms))
    by false k = rw (K.kept-one_far move_end (λ x y. near x y e) q c (ap (λ x. near q x e) h ∙ k))

abbrev ring : Vector2 → List Move → Drawing
ring p ks = record { vertices = corners p ks; flags = flags_of ks; indexes = marks 0 ks; origins = origins_of ks; closed = true }

drawn-lone : (p : Vector2) (ks : List Move) → drawn_closed p ks ≡ lone (ring p ks)
unfolding drawn_closed lone corners when◌give◌else◌
drawn-lone p [] = refl
drawn-lone p (k ∷ []) = refl
drawn-lone p (k ∷ l ∷ ks) = rw (lt-leb (length (corners p (k ∷ l ∷ ks))) 1 (omega arith))

removed : (p : Vector2) (ks : List Move) → last_removed (walked p ks) ≡ corners p ks
removed p ks =
    let l = length-append (corners p ks) (vertex_at (last_point p ks) zero ∷ []) in
    take_at (corners p ks) (vertex_at (last_point p ks) zero ∷ []) (length (walked p ks) - 1) (omega arith)

-- the closing move dropped, and the last vertex removed where there is more than one
dropped : (p : Vector2) (ks : List Move)
    → drawn_closed p ks
    ≡ lone (record {
      vertices = when leb 2 (length (walked p ks)) give last_removed (walked p ks) else walked p ks;
      flags = flags_of ks;
      indexes = marks 0 ks;
      origins = origins_of ks;
      closed = true;
    })
unfolding when◌give◌else◌ drawn_closed lone corners
dropped p [] = refl
dropped p (k ∷ ks) =
    let l = length-append (corners p (k ∷ ks)) (vertex_at (last_point p (k ∷ ks)) zero ∷ []) in
    rw (le-leb 2 (length (walked p (k ∷ ks))) (omega arith), removed p (k ∷ ks)) (drawn-lone p (k ∷ ks))

pub closing-rule : (e : Float) (p : Vector2) (ms : List Move) (c : Move) → c.end ≡ p → closed_by e p (kept e p ms) c ≡ drawn_closed p (kept e p (ms ++ c ∷ []))
unfolding closed_by when◌give◌else◌
closing-rule e p ms c h = sym (ap (drawn_closed p) (closing e p ms c h) ∙ by (near (last_point p (kept e p ms)) p e) (kept e p ms))
  where
    by : (b : Bool) (ks : List Move)
        → drawn_closed p (when b give ks else ks ++ c ∷ [])
        ≡ lone
        (when b give record {
          vertices = when leb 2 (length (walked p ks)) give last_removed (walked p ks) else walked p ks;
          flags = flags_of ks;
          indexes = marks 0 ks;
          origins = origins_of ks;
          closed = true;
        } else record {
          vertices = corners p ks ++ vertex_at (last_point p ks) c.bulge ∷ [];
          flags = flags_of ks ++ bit (invalid_move c) ∷ [];
          indexes = marks 0 ks ++ mark (invalid_move c) (length ks) [];
          origins = origins_of ks ++ c.origin ∷ [];
          closed = true;
        })
    by true ks = dropped p ks
    by false ks = rw (← corners-snoc p ks c, ← flags_of-snoc ks c, ← zero-add (length ks), ← marks-snoc 0 ks c, ← origins_of-snoc ks c) (drawn-lone p (ks ++ c ∷ []))
