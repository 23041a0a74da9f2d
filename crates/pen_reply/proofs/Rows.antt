-- The text of what a call hands out: what stands at each place of the buffers, and how long it is. Assumes nothing.
use mathlib.Core.Path.{◌≡◌, refl}
use mathlib.Core.Bool.{Bool, true, false}
use mathlib.Core.List.{List, [], ◌∷◌}
use Prim.Native.Nat.{ℕ, zero, suc, ◌<◌, ◌≤◌}
use native.Mathlib.Omega.{arith}
use borrow.Author.Tests.{lt-ltb, le-ltb, eq-eqb}
use lib.ListN.{length, get_or, length-append}
use Rattle.floats.specs.Choice.{when◌give◌else◌}
use Rattle.floats.proofs.Choice.{yes, no}
use Rattle.segments.specs.declared.PlineVertex.{PlineVertex}
use Rattle.source.specs.InnerSteps.{vertex_of}
use Rattle.moves.specs.declared.Origin.{Origin}
use Rattle.moves.specs.Origins.{origin_of, origins_in}
use Rattle.sheet.specs.Buffers.{no_origin}
use Rattle.packed.specs.Text.{space, line_end, mark_of}
use Rattle.packed.proofs.Lines.{length-row, most_origin}
use Rattle.pieces.specs.declared.DrawAnswer.{DrawAnswer}
use Rattle.pen_reply.specs.Pen.{segment_line, last_line, vertex_at, place_text, piece_text}

-- ---- lengths

most_segment : (v : PlineVertex) (flag : ℕ) (o : Origin) → length (segment_line v flag o) ≤ 84
unfolding segment_line
most_segment v flag o = rw length-append (omega (arith, length-row v.x v.y v.bulge (mark_of false flag) space, most_origin o))

length_last : (v : PlineVertex) → length (last_line v) ≡ 53
unfolding last_line
length_last v = length-row v.x v.y v.bulge (mark_of true 0) line_end

either : (t : Bool) (xs ys : List ℕ) → length xs ≤ 84 → length ys ≤ 84 → length (when t give xs else ys) ≤ 84
unfolding when◌give◌else◌
either true xs ys p q = p
either false xs ys p q = q

pub most_place : (a : DrawAnswer) (vs : List PlineVertex) (fs : List ℕ) (os : List Origin) (i : ℕ) → length (place_text a vs fs os i) ≤ 84
unfolding place_text
most_place a vs fs os i =
    either _ _ _ (most_segment _ _ _) (either _ _ _ (omega (arith, length_last (vertex_at vs i))) (omega arith))

pub most_piece : (a : DrawAnswer) (vs : List PlineVertex) (fs : List ℕ) (os : List Origin) → length (piece_text a vs fs os) ≤ 252
unfolding piece_text
most_piece a vs fs os = rw (length-append, length-append) (omega (arith, most_place a vs fs os 0, most_place a vs fs os 1, most_place a vs fs os 2))

-- ---- places

-- the origin that stands at a place of a buffer
pub origin-at : (codes : List ℕ) (i : ℕ) → get_or (origins_in codes) i no_origin ≡ origin_of (get_or codes i 0)
unfolding origins_in origin_of
origin-at [] i = yes _ _ _ (eq-eqb 0 0 refl) refl
origin-at (c ∷ codes) zero = refl
origin-at (c ∷ codes) (suc i) = origin-at codes i

module _ (a : DrawAnswer) (vs : List PlineVertex) (fs codes : List ℕ) (i : ℕ) where
  pub at-segment : i < a.segments → {v : PlineVertex} {o : Origin} → v ≡ vertex_of vs i → o ≡ origin_of (get_or codes i 0) → segment_line v (get_or fs i 0) o ≡ place_text a vs fs (origins_in codes) i
  unfolding place_text vertex_of
  at-segment h e f = yes _ _ _ (lt-ltb _ _ h) (rw (e, f, origin-at codes i))

  pub at_last : a.segments ≤ i → i < a.vertices → {v : PlineVertex} → v ≡ vertex_of vs i → last_line v ≡ place_text a vs fs (origins_in codes) i
  unfolding place_text vertex_of
  at_last h k e = no _ _ _ (le-ltb _ _ h) (yes _ _ _ (lt-ltb _ _ k) (rw e))

  pub at_none : a.segments ≤ i → a.vertices ≤ i → [] ≡ place_text a vs fs (origins_in codes) i
  unfolding place_text
  at_none h k = no _ _ _ (le-ltb _ _ h) (no _ _ _ (le-ltb _ _ k) refl)
