-- A whole walk draws the kept ones of the rule's moves: an open one, with its last span (`open_drawn`), and a closed one, which is led in by its closing join (`closed-led`;
-- `closing-told` has its rules), with the closing moves (`closed-drawn`). Where the ends of that join are near, its connector is dropped, as the rule has none. Assumes nothing.
use mathlib.Core.Path.{◌≡◌, refl, sym, ap, ◌∙◌}
use mathlib.Core.List.{List, [], ◌∷◌, ◌++◌}
use mathlib.Core.Bool.{Bool, true, false}
use native.Mathlib.Nat.{zero-add}
use lib.ListN.{length}
use Rattle.floats.specs.Choice.{when◌give◌else◌}
use Rattle.vectors.specs.Plane.{near}
use Rattle.vectors.specs.declared.Vector2.{Vector2}
use Rattle.segments.specs.declared.PlineVertex.{PlineVertex}
use Rattle.segments.specs.declared.Settings.{Settings}
use Rattle.segments.specs.Vertex.{pos_of}
use Rattle.segments.specs.Segment.{offset_seg, start_of}
use Rattle.joins.specs.declared.JoinBoundary.{JoinBoundary}
use Rattle.joins.specs.declared.JoinCause.TheVariants.{Coincident}
use Rattle.joins.specs.Boundary.{straight}
use Rattle.joins.specs.Rules.{ruled_join}
use Rattle.joins.specs.Corner.{cornered}
use Rattle.joins.proofs.Corner.{corner-one-point, near_unpointed}
use Rattle.moves.specs.declared.Move.{Move}
use Rattle.moves.specs.declared.Pen.{Pen}
use Rattle.moves.specs.declared.Stroke.{Stroke}
use Rattle.moves.specs.Made.{span_move, connector_move, connector_moves}
use Rattle.moves.specs.Drawing.{move_end, kept, last_point}
use Rattle.moves.specs.InnerSteps.{pen_at, step_of, strokes}
use Rattle.moves.proofs.Kept as K
use Rattle.moves.proofs.Tips.{no-tip}
use Rattle.walk.specs.Walk.{join_at, open_last, closed_last, last_vertex, closing_join, walk_start, walk_moves}
use Rattle.walk.specs.InnerSteps.{Standing, Stood, standing_at, first_entry, entering, after_turn, turn_to, span_to, last_span, drawn_by, strokes_by, pen_by, advance, goes, drawn_on}
use Rattle.walk.proofs.Turning.{Draws, one-drawn, row-drawn, led-undrawn, led, last_of, walk-drawn}

module _ (σ : Settings) where
  -- ---- once led in, it stays so
  stays_led : (closed : Bool) (vs : List PlineVertex) (w : Stood) → w.leading ≡ 0 → (goes closed σ vs w).leading ≡ 0
  unfolding goes advance
  stays_led closed [] w h = h
  stays_led closed (c ∷ vs) w h = stays_led closed vs _ (unfold after_turn in rw h)

  -- ---- open
  module _ (a b : PlineVertex) (vs : List PlineVertex) where
    first : Stood
    first = let p = start_of (offset_seg a b σ.offset) in led σ 0 a b (straight Coincident p p) (pen_at p)

    open_first : goes false σ (b ∷ vs) (standing_at a 1) ≡ goes false σ vs first
    unfolding first goes advance standing_at turn_to after_turn entering first_entry when◌give◌else◌
    open_first = refl

    open_first-drawn : drawn_on false σ (b ∷ vs) (standing_at a 1) ≡ drawn_on false σ vs first
    unfolding first drawn_on advance standing_at turn_to after_turn entering first_entry when◌give◌else◌
    open_first-drawn = ap (λ (s : List Stroke). s ++ drawn_on false σ vs first) (led-undrawn 0 _ _ σ.eps)

    pub open_led : (goes false σ (b ∷ vs) (standing_at a 1)).leading ≡ 0
    unfolding first
    open_led = rw open_first (stays_led false vs first refl)

    open_moves : let w = goes false σ vs first in let last = step_of w.pen (last_span w.walker) σ.eps in
        Draws σ.eps (pen_at (walk_start false σ a b vs)) (walk_moves false σ a b vs) (drawn_on false σ vs first ++ drawn_by 0 last) last.pen
    unfolding first walk_start walk_moves when◌give◌else◌ open_last last_span
    open_moves = walk-drawn false σ open_last vs 0 a b _ _ (one-drawn σ.eps _ _)

    pub open_drawn : let w = goes false σ (b ∷ vs) (standing_at a 1) in let last = step_of w.pen (last_span w.walker) σ.eps in
        let p = walk_start false σ a b vs in let ks = kept σ.eps p (walk_moves false σ a b vs) in
        (drawn_on false σ (b ∷ vs) (standing_at a 1) ++ drawn_by w.leading last ≡ strokes 0 p ks) × (last.pen ≡ record { last = last_point p ks; number = record { 0 = length ks } })
    open_drawn = rw (open_led, open_first, open_first-drawn) (open_moves.drawn, open_moves.left ∙ rw zero-add)

  pub open_current : (a b : PlineVertex) → (goes false σ (b ∷ []) (standing_at a 1)).walker.current ≡ offset_seg a b σ.offset
  unfolding goes advance standing_at turn_to after_turn entering
  open_current a b = refl

  -- ---- closed
  -- a connector that ends where its span does is dropped, if that point is near itself
  dropped : (p : Vector2) (m c : Move) → m.end ≡ c.end → near m.end c.end σ.eps ≡ true → kept σ.eps p (m ∷ c ∷ []) ≡ kept σ.eps p (m ∷ [])
  dropped p m c e n = by (near p m.end σ.eps) refl
    where
      close : Vector2 → Vector2 → Bool
      close x y = near x y σ.eps

      by : (t : Bool) → near p m.end σ.eps ≡ t → kept σ.eps p (m ∷ c ∷ []) ≡ kept σ.eps p (m ∷ [])
      by true h = K.kept_near move_end close p m (c ∷ []) h ∙ K.kept-one-near move_end close p c (ap (close p) (sym e) ∙ h) ∙ sym (K.kept-one-near move_end close p m h)
      by false h = K.kept_far move_end close p m (c ∷ []) h ∙ rw (K.kept-one-near move_end close m.end c n) (sym (K.kept-one_far move_end close p m h))

  -- the closing moves of the walk w, by the join of the segments from l to a and from a to b
  module _ (l a b : PlineVertex) (w : Standing) where
    abbrev k : JoinBoundary
    k = join_at σ l a b

    span : Vector2 → Move
    span e = span_to w e k.current_param

    closing-kept : (p : Vector2) → kept σ.eps p (span k.current_end ∷ connector_moves w.source.0 k) ≡ kept σ.eps p (last_of (closed_last k σ.eps) w)
    unfolding span closed_last join_at span_move connector_move
    closing-kept p = by (near k.current_end k.next_start σ.eps) refl
      where
        by : (n : Bool) → near k.current_end k.next_start σ.eps ≡ n
            → kept σ.eps p (span k.current_end ∷ connector_moves w.source.0 k)
            ≡ kept σ.eps p (when n give span k.next_start ∷ [] else span k.current_end ∷ connector_moves w.source.0 k)
        by true h =
            let e = corner-one-point (offset_seg l a σ.offset) (offset_seg a b σ.offset) (pos_of a) σ h in
            let n = no-tip w.source.0 k (near_unpointed (offset_seg l a σ.offset) (offset_seg a b σ.offset) (pos_of a) σ h) in
            unfold when◌give◌else◌ in ap (λ (ms : List Move). kept σ.eps p (span k.current_end ∷ ms)) n ∙ dropped p (span k.current_end) (connector_move w.source.0 k) e h ∙ ap (λ (x : Vector2). kept σ.eps p (span x ∷ [])) e
        by false h = unfold when◌give◌else◌ in refl

    closing-drawn : (pen : Pen) → let ms = span k.current_end ∷ connector_moves w.source.0 k in
        Draws σ.eps pen (last_of (closed_last k σ.eps) w) (strokes_by 0 pen ms σ.eps) (pen_by pen ms σ.eps)
    closing-drawn pen =
        let d = row-drawn σ.eps pen _ in
        let e = closing-kept pen.last in
        record { drawn = d.drawn ∙ rw e; left = d.left ∙ rw e }

  module _ (a b : PlineVertex) (vs : List PlineVertex) where
    -- at the first segment, which is entered by the closing join
    unfoldable pub led_in : Stood
    led_in = let k = closing_join σ a b vs in led σ 0 a b k (pen_at k.next_start)

    pub closed-led : goes true σ (a ∷ b ∷ []) (standing_at (last_vertex b vs) 2) ≡ led_in
    unfolding led_in goes advance standing_at turn_to after_turn entering first_entry when◌give◌else◌ closing_join join_at
    closed-led = refl

    -- and the turn that enters there tells the closing join, with its rules
    pub closing-told : let w = goes true σ (a ∷ []) (standing_at (last_vertex b vs) 2) in
        let g = offset_seg (last_vertex b vs) a σ.offset in let h = offset_seg a b σ.offset in
        (turn_to w.walker b σ).join ≡ cornered g h (pos_of a) σ (ruled_join g h (pos_of a) σ)
    unfolding goes advance standing_at turn_to after_turn
    closing-told = refl

    pub closed-undrawn : drawn_on true σ (a ∷ b ∷ []) (standing_at (last_vertex b vs) 2) ≡ []
    unfolding drawn_on advance standing_at after_turn
    closed-undrawn = rw (led-undrawn 1 _ _ σ.eps, led-undrawn 0 _ _ σ.eps)

    pub closed-drawn : let k = closing_join σ a b vs in let w = goes true σ (vs ++ a ∷ []) led_in in let p = walk_start true σ a b vs in
        drawn_on true σ (vs ++ a ∷ []) led_in ++ strokes_by 0 w.pen (span_to w.walker k.current_end k.current_param ∷ connector_moves w.walker.source.0 k) σ.eps
        ≡ strokes 0 p (kept σ.eps p (walk_moves true σ a b vs))
    unfolding led_in walk_start walk_moves when◌give◌else◌ closing_join span
    closed-drawn =
        let k = closing_join σ a b vs in
        (walk-drawn true σ (closed_last k σ.eps) (vs ++ a ∷ []) 0 a b k _ (closing-drawn (last_vertex b vs) a b (goes true σ (vs ++ a ∷ []) led_in).walker _)).drawn
