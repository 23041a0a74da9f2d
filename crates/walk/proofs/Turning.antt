-- A walk that is led in draws the rule's moves: the segment that it carries is the one worked out anew from its vertices at each turn, and its pen keeps
-- the moves that `kept` keeps (`walk-drawn`). Assumes nothing.
use mathlib.Core.Path.{◌≡◌, refl, sym, ◌∙◌, subst}
use mathlib.Core.List.{List, [], ◌∷◌, ◌++◌, append_assoc}
use mathlib.Core.Bool.{Bool, true, false}
use Prim.Native.Nat.{ℕ, suc, ◌+◌}
use native.Mathlib.Nat.{add_assoc, add-zero}
use native.Mathlib.Numerals.{add-one}
use lib.Dec.{eqb-suc-zero}
use lib.ListN.{length, length-append}
use lib.Ieee.{Float}
use Rattle.floats.specs.Choice.{when◌give◌else◌, ◌and◌}
use Rattle.vectors.specs.Plane.{near}
use Rattle.segments.specs.declared.PlineVertex.{PlineVertex}
use Rattle.segments.specs.declared.Settings.{Settings}
use Rattle.segments.specs.declared.RawOffsetSeg.{RawOffsetSeg}
use Rattle.segments.specs.Segment.{offset_seg}
use Rattle.joins.specs.declared.JoinBoundary.{JoinBoundary}
use Rattle.moves.specs.declared.Move.{Move}
use Rattle.moves.specs.declared.Pen.{Pen}
use Rattle.moves.specs.declared.Stroke.{Stroke}
use Rattle.moves.specs.Moves as M
use Rattle.moves.specs.Made.{span_move, connector_moves}
use Rattle.moves.specs.Drawing.{move_end, kept, last_point}
use Rattle.moves.specs.InnerSteps.{pen_after, step_of, strokes}
use Rattle.moves.proofs.Kept as K
use Rattle.moves.proofs.Strokes.{strokes-append}
use Rattle.walk.specs.Walk.{join_at, walk}
use Rattle.walk.specs.InnerSteps.{Standing, Stood, after_turn, turn_to, drawn_by, strokes_by, pen_by, Advance, advance, goes, drawn_on}

-- ---- what a pen draws of a row of moves

-- the pen after kept moves
abbrev pub pen_on : Pen → List Move → Pen
pen_on pen ks = record { last = last_point pen.last ks; number = record { 0 = pen.number.0 + length ks } }

-- from `pen` on the moves ms are drawn by the strokes s, and the pen is then `after`
pub record Draws (e : Float) (pen : Pen) (ms : List Move) (s : List Stroke) (after : Pen) : Type 0 where
  pub drawn : s ≡ strokes pen.number.0 pen.last (kept e pen.last ms)
  pub left : after ≡ pen_on pen (kept e pen.last ms)

module _ (e : Float) where
  pub one-drawn : (pen : Pen) (m : Move) → Draws e pen (m ∷ []) (drawn_by 0 (step_of pen m e)) (step_of pen m e).pen
  unfolding drawn_by step_of pen_after strokes M.last_point when◌give◌else◌ ◌and◌
  one-drawn pen m = by (near pen.last m.end e) refl
    where
      by : (b : Bool) → near pen.last m.end e ≡ b → Draws e pen (m ∷ []) (drawn_by 0 (step_of pen m e)) (step_of pen m e).pen
      by true h = record {
        drawn = rw (h, K.kept-one-near move_end (λ x y. near x y e) pen.last m h);
        left = rw (h, K.kept-one-near move_end (λ x y. near x y e) pen.last m h, add-zero);
      }
      by false h = record {
        drawn = rw (h, K.kept-one_far move_end (λ x y. near x y e) pen.last m h);
        left = rw (h, K.kept-one_far move_end (λ x y. near x y e) pen.last m h);
      }

  -- one row after another
  pub both-drawn : {pen pen' pen'' : Pen} {ms ns : List Move} {s t : List Stroke} → Draws e pen ms s pen' → Draws e pen' ns t pen'' → Draws e pen (ms ++ ns) (s ++ t) pen''
  both-drawn {pen} {ms = ms} {ns = ns} c d =
      let k = K.kept_append move_end (λ x y. near x y e) pen.last ms ns in
      let d' = rw c.left at d in
      record {
        drawn = rw (c.drawn, d'.drawn, k) (sym (strokes-append _ _ _ _));
        left = d'.left ∙ rw (k, length-append, add_assoc, K.last_point-append move_end);
      }

  none-drawn : (pen : Pen) → Draws e pen [] [] pen
  unfolding strokes M.last_point
  none-drawn pen = let k = K.kept-nil move_end (λ x y. near x y e) pen.last in record { drawn = rw k; left = rw (k, add-zero) }

  -- moves one after the other
  pub row-drawn : (pen : Pen) (ms : List Move) → Draws e pen ms (strokes_by 0 pen ms e) (pen_by pen ms e)
  unfolding strokes_by pen_by
  row-drawn pen [] = none-drawn pen
  row-drawn pen (m ∷ ms) = both-drawn (one-drawn pen m) (row-drawn (step_of pen m e).pen ms)

-- one row after another, of any walk
pub strokes-both : (n : ℕ) (pen : Pen) (ms ns : List Move) (e : Float) → strokes_by n pen (ms ++ ns) e ≡ strokes_by n pen ms e ++ strokes_by n (pen_by pen ms e) ns e
unfolding strokes_by pen_by
strokes-both n pen [] ns e = refl
strokes-both n pen (m ∷ ms) ns e = rw (strokes-both n (step_of pen m e).pen ms ns e, append_assoc)

pub pen-both : (pen : Pen) (ms ns : List Move) (e : Float) → pen_by pen (ms ++ ns) e ≡ pen_by (pen_by pen ms e) ns e
unfolding pen_by
pen-both pen [] ns e = refl
pen-both pen (m ∷ ms) ns e = pen-both (step_of pen m e).pen ms ns e

-- nothing is drawn while turns lead in
pub led-undrawn : (n : ℕ) (pen : Pen) (ms : List Move) (e : Float) → strokes_by (suc n) pen ms e ≡ []
unfolding strokes_by drawn_by when◌give◌else◌ ◌and◌
led-undrawn n pen [] e = refl
led-undrawn n pen (m ∷ ms) e = rw (eqb-suc-zero n) (led-undrawn n (step_of pen m e).pen ms e)

-- ---- a walk that is led in

-- at segment i, from a to b, whose span starts at the boundary j
abbrev pub led : Settings → ℕ → PlineVertex → PlineVertex → JoinBoundary → Pen → Stood
led σ i a b j pen = record { walker = record { source = record { 0 = i }; current = offset_seg a b σ.offset; vertex = b; entry = j }; pen = pen; leading = 0 }

-- the moves of the segment where a walk stands, as its last
abbrev pub last_of : (ℕ → RawOffsetSeg → Float → List Move) → Standing → List Move
last_of last w = last w.source.0 w.current w.entry.next_param

module _ (closed : Bool) (σ : Settings) where
  -- a turn of it: its moves are drawn, and it is led in at the next segment
  module _ (i : ℕ) (a b c : PlineVertex) (j : JoinBoundary) (pen : Pen) where
    unfoldable pub turned : Advance
    turned = advance closed σ c (led σ i a b j pen)

    turn-led : turned.stood ≡ led σ (suc i) b c (join_at σ a b c) turned.stood.pen
    unfolding turned advance turn_to after_turn join_at
    turn-led = rw add-one

    pub turn-drawn : let k = join_at σ a b c in
        Draws σ.eps pen (span_move i (offset_seg a b σ.offset) j.next_param k.current_end k.current_param ∷ connector_moves i k) turned.strokes turned.stood.pen
    unfolding turned advance turn_to after_turn join_at
    turn-drawn = row-drawn σ.eps pen _

  -- it draws what the rule's walk has, if it draws the last moves
  pub walk-drawn : (last : ℕ → RawOffsetSeg → Float → List Move) (vs : List PlineVertex) (i : ℕ) (a b : PlineVertex) (j : JoinBoundary) (pen : Pen) {s : List Stroke} {q : Pen}
      → Draws σ.eps (goes closed σ vs (led σ i a b j pen)).pen (last_of last (goes closed σ vs (led σ i a b j pen)).walker) s q
      → Draws σ.eps pen (walk last σ i a b j.next_param vs) (drawn_on closed σ vs (led σ i a b j pen) ++ s) q
  unfolding walk goes drawn_on turned
  walk-drawn last [] i a b j pen d = d
  walk-drawn last (c ∷ vs) i a b j pen {s} {q} d =
      rw append_assoc (both-drawn σ.eps (turn-drawn i a b c j pen)
      (subst (λ (w : Stood). Draws σ.eps (goes closed σ vs w).pen (last_of last (goes closed σ vs w).walker) s q
      → Draws σ.eps w.pen (walk last σ (suc i) b c (join_at σ a b c).next_param vs) (drawn_on closed σ vs w ++ s) q)
      (sym (turn-led i a b c j pen)) (walk-drawn last vs (suc i) b c (join_at σ a b c) _) d))
