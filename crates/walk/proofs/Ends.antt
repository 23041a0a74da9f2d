-- A closed walk has two moves or more, and the last of them, which closes it, ends where the walk starts (`closed-ends`). Assumes nothing.
use mathlib.Core.Path.{◌≡◌, refl, ap}
use mathlib.Core.List.{List, [], ◌∷◌, ◌++◌}
use mathlib.Core.Bool.{Bool, true, false}
use Prim.Native.Nat.{ℕ, suc, ◌<◌}
use native.Mathlib.Nat.{zero-lt-suc}
use lib.ListN.{length}
use lib.Ieee.{Float}
use Rattle.floats.specs.Choice.{when◌give◌else◌}
use Rattle.vectors.specs.Plane.{near}
use Rattle.vectors.specs.declared.Vector2.{Vector2}
use Rattle.segments.specs.declared.PlineVertex.{PlineVertex}
use Rattle.segments.specs.declared.Settings.{Settings}
use Rattle.segments.specs.declared.RawOffsetSeg.{RawOffsetSeg}
use Rattle.segments.specs.Segment.{offset_seg}
use Rattle.joins.specs.declared.JoinBoundary.{JoinBoundary}
use Rattle.moves.specs.declared.Move.{Move}
use Rattle.moves.specs.Made.{span_move, connector_move, tip_moves, connector_moves}
use Rattle.walk.specs.Walk.{join_at, walk, closed_last, closing_join, walk_start, walk_moves}

-- moves of which the last ends at p
pub record EndsAt (p : Vector2) (ms : List Move) : Type 0 where
  pub before : List Move
  pub closing : Move
  pub last : ms ≡ before ++ closing ∷ []
  pub home : closing.end ≡ p

-- and which are two or more
pub record Closes (p : Vector2) (ms : List Move) : Type 0 where
  pub ends : EndsAt p ms
  pub some : 0 < length ends.before

after : (m : Move) {p : Vector2} {ms : List Move} → EndsAt p ms → EndsAt p (m ∷ ms)
after m e = record { before = m ∷ e.before; closing = e.closing; last = ap (λ (t : List Move). m ∷ t) e.last; home = e.home }

after-all : (ns : List Move) {p : Vector2} {ms : List Move} → EndsAt p ms → EndsAt p (ns ++ ms)
after-all [] e = e
after-all (n ∷ ns) e = after n (after-all ns e)

module _ (closing : JoinBoundary) (σ : Settings) where
  closed-last : (i : ℕ) (g : RawOffsetSeg) (t : Float) → EndsAt closing.next_start (closed_last closing σ.eps i g t)
  unfolding closed_last when◌give◌else◌ span_move connector_move connector_moves
  closed-last i g t = by (near closing.current_end closing.next_start σ.eps)
    where
      folded : Move
      folded = span_move i g t closing.next_start closing.current_param

      whole : Move
      whole = span_move i g t closing.current_end closing.current_param

      by : (n : Bool) → EndsAt closing.next_start (when n give folded ∷ [] else whole ∷ connector_moves i closing)
      by true = record { before = []; closing = folded; last = refl; home = refl }
      by false = record { before = whole ∷ tip_moves i closing; closing = connector_move i closing; last = refl; home = refl }

  walk_ends : (i : ℕ) (a b : PlineVertex) (t : Float) (vs : List PlineVertex) → EndsAt closing.next_start (walk (closed_last closing σ.eps) σ i a b t vs)
  unfolding walk
  walk_ends i a b t [] = closed-last i (offset_seg a b σ.offset) t
  walk_ends i a b t (c ∷ vs) = after _ (after-all (connector_moves i (join_at σ a b c)) (walk_ends (suc i) b c (join_at σ a b c).next_param vs))

  walk-closes : (i : ℕ) (a b : PlineVertex) (t : Float) (c : PlineVertex) (vs : List PlineVertex) → Closes closing.next_start (walk (closed_last closing σ.eps) σ i a b t (c ∷ vs))
  unfolding walk after
  walk-closes i a b t c vs = record { ends = after _ (after-all (connector_moves i (join_at σ a b c)) (walk_ends (suc i) b c (join_at σ a b c).next_param vs)); some = zero-lt-suc _ }

pub closed-ends : (σ : Settings) (a b : PlineVertex) (vs : List PlineVertex) → Closes (walk_start true σ a b vs) (walk_moves true σ a b vs)
unfolding walk_start walk_moves when◌give◌else◌
closed-ends σ a b [] = let j = closing_join σ a b [] in walk-closes j σ 0 a b j.next_param a []
closed-ends σ a b (c ∷ vs) = let j = closing_join σ a b (c ∷ vs) in walk-closes j σ 0 a b j.next_param c (vs ++ a ∷ [])
