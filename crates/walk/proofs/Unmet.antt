-- A meeting connector is never kept where all that is drawn is finite (`never_met`): it ends where the span before it ended, and the last kept point is near there or is that very
-- point. A closed walk never keeps exactly one move (`never_one`). Assumes nothing.
use mathlib.Core.Path.{◌≡◌, refl, sym, ap, ◌∙◌, subst}
use mathlib.Core.Logic.{◌⊎◌, inl, inr, ⊎_elim}
use mathlib.Core.List.Memᴰ
use mathlib.Core.List.{List, [], ◌∷◌, ◌++◌, append-nil, Memᴰ}
use mathlib.Core.Bool.{Bool, true, false, true≢false}
use Prim.Native.Nat.{ℕ, suc}
use lib.ListN.{length}
use lib.Ieee.{Float, lt}
use Rattle.std.specs.Prelude.{Ok}
use Rattle.floats.specs.Binary64.{zero}
use Rattle.floats.specs.Choice.{when◌give◌else◌, ◌and◌}
use Rattle.floats.specs.Size.{finite}
use Rattle.floats.proofs.Choice.{both_pass}
use Rattle.vectors.specs.Plane.{near}
use Rattle.vectors.specs.declared.Vector2.{Vector2}
use Rattle.segments.specs.declared.PlineVertex.{PlineVertex}
use Rattle.segments.specs.declared.RawOffsetSeg.{RawOffsetSeg}
use Rattle.segments.specs.declared.Settings.{Settings}
use Rattle.segments.specs.Vertex.{vertex_at}
use Rattle.segments.specs.Segment.{offset_seg}
use Rattle.joins.specs.declared.JoinBoundary.{JoinBoundary}
use Rattle.joins.specs.declared.JoinCause.{JoinCause}
use Rattle.joins.specs.Join.{join_of}
use Rattle.joins.specs.Corner.{is_pointed, corner_join}
use Rattle.joins.proofs.Corner.{corner-ends}
use Rattle.moves.specs.declared.Move.{Move}
use Rattle.moves.specs.declared.Reason.{Reason}
use Rattle.moves.specs.declared.Reason.TheVariants.{Meeting, Pointed}
use Rattle.moves.specs.Reason.{connector_reason}
use Rattle.moves.specs.Made.{span_move, connector_move, tip_move, connector_moves}
use Rattle.moves.specs.Drawing.{move_end, kept, last_point, corners, drawn_open, drawn_closed, finite_vertex, all_finite}
use Rattle.moves.proofs.Kept as K
use Rattle.moves.proofs.Tips.{either_tip, pointed-cause}
use Rattle.moves.proofs.Near.{near-finite}
use Rattle.moves.proofs.Drawn.{closed_never_one}
use Rattle.walk.specs.Walk.{join_at, walk, open_last, closed_last, closing_join, walk_start, walk_moves, walk_drawing}
use Rattle.walk.specs.Spans.{Corner, corner_at}
use Rattle.walk.specs.Branches.{ConnectorBranch}
use Rattle.walk.proofs.Branches.{span↔, connector↔, searched}
use Rattle.walk.proofs.Ends.{closed-ends}

-- ---- each meeting connector of a row ends where the move before it ended; the move before the row ended at q
data Stays : Vector2 → List Move → Type 0 where
  none : {q : Vector2} → Stays q []
  next : {q : Vector2} {m : Move} {ms : List Move} → (m.reason ≡ Meeting → m.end ≡ q) → Stays m.end ms → Stays q (m ∷ ms)

module _ (σ : Settings) where
  one-point : (k : Corner) → let j = corner_join k.current k.next k.shared σ in connector_reason j.cause ≡ Meeting → j.next_start ≡ j.current_end
  unfolding join_of
  one-point k e = let s = corner-ends k.current k.next k.shared σ in s.next_start ∙ by ((connector↔ σ k Meeting).0 e) ∙ sym s.current_end
    where
      by : ConnectorBranch Meeting k σ → (join_of k.current k.next k.shared σ).next_start ≡ (join_of k.current k.next k.shared σ).current_end
      by (inl h) = rw h
      by (inr h) = rw (h.0, searched k.current k.next k.shared σ.eps (Ok h.1.0) h.1.1)

  tip-unmet : (c : JoinCause) → is_pointed c ≡ true → connector_reason c ≡ Meeting → ⊥
  tip-unmet c t e = let z : ◌≡◌ {A = Reason} Pointed Meeting = ap connector_reason (sym (pointed-cause c t)) ∙ e in true≢false (cc)

  span_stays : (i : ℕ) (g : RawOffsetSeg) (from : Float) (end : Vector2) (to : Float) (q : Vector2) (ms : List Move) → Stays end ms → Stays q (span_move i g from end to ∷ ms)
  unfolding span_move
  span_stays i g from end to q ms on = next (λ e. absurd ((span↔ g from to Meeting).0 e)) on

  connector_stays : (i : ℕ) (a b c : PlineVertex) (ms : List Move) → let j = join_at σ a b c in Stays j.next_start ms → Stays j.current_end (connector_moves i j ++ ms)
  unfolding connector_moves connector_move tip_move join_at
  connector_stays i a b c ms on =
      either_tip i (join_at σ a b c) (λ (xs : List Move). Stays (join_at σ a b c).current_end ((xs ++ connector_move i (join_at σ a b c) ∷ []) ++ ms)) (λ t. next (one-point (corner_at σ a b c)) on)
      (λ t. next (λ e. absurd (tip-unmet (join_at σ a b c).cause t e)) (next (λ e. absurd (tip-unmet (join_at σ a b c).cause t e)) on))

  walk_stays : (last : ℕ → RawOffsetSeg → Float → List Move) → ((i : ℕ) (g : RawOffsetSeg) (t : Float) (q : Vector2) → Stays q (last i g t))
      → (i : ℕ) (a b : PlineVertex) (t : Float) (q : Vector2) (vs : List PlineVertex) → Stays q (walk last σ i a b t vs)
  unfolding walk
  walk_stays last h i a b t q [] = h i (offset_seg a b σ.offset) t q
  walk_stays last h i a b t q (c ∷ vs) = span_stays i _ t _ _ q _ (connector_stays i a b c _ (walk_stays last h (suc i) b c (join_at σ a b c).next_param (join_at σ a b c).next_start vs))

  open_stays : (i : ℕ) (g : RawOffsetSeg) (t : Float) (q : Vector2) → Stays q (open_last i g t)
  unfolding open_last
  open_stays i g t q = span_stays i g t _ _ q [] none

  closed_stays : (a b c : PlineVertex) (i : ℕ) (g : RawOffsetSeg) (t : Float) (q : Vector2) → Stays q (closed_last (join_at σ a b c) σ.eps i g t)
  unfolding closed_last when◌give◌else◌
  closed_stays a b c i g t q = by (near j.current_end j.next_start σ.eps)
    where
      j : JoinBoundary
      j = join_at σ a b c

      by : (n : Bool)
          → Stays q (when n give span_move i g t j.next_start j.current_param ∷ [] else span_move i g t j.current_end j.current_param ∷ connector_moves i j)
      by true = span_stays i g t j.next_start j.current_param q [] none
      by false = span_stays i g t j.current_end j.current_param q (connector_moves i j) (subst (Stays j.current_end) (append-nil (connector_moves i j)) (connector_stays i a b c [] none))

  moves_stay : (closed : Bool) (a b : PlineVertex) (vs : List PlineVertex) (q : Vector2) → Stays q (walk_moves closed σ a b vs)
  unfolding walk_moves when◌give◌else◌ closing_join
  moves_stay true a b vs q = walk_stays _ (closed_stays _ a b) 0 a b _ q _
  moves_stay false a b vs q = walk_stays open_last open_stays 0 a b zero q vs

-- ---- what is kept

-- no move of a row is a meeting connector
abbrev Unmet : List Move → Type 0
Unmet ms = (m : Move) → Memᴰ m ms → m.reason ≡ Meeting → ⊥

-- the points that kept moves leave are finite
left_finite : (p : Vector2) (k : Move) (ks : List Move) (vs : List PlineVertex) → all_finite (corners p (k ∷ ks) ++ vs) ≡ true
    → (finite p.x ≡ true) × (finite p.y ≡ true) × (all_finite (corners k.end ks ++ vs) ≡ true)
unfolding corners all_finite finite_vertex
left_finite p k ks vs f =
    let both = (both_pass (finite_vertex (vertex_at p k.bulge)) (all_finite (corners k.end ks ++ vs))).0 f in
    let point = (both_pass (finite p.x) (finite p.y)).0 ((both_pass (finite p.x and finite p.y) (finite k.bulge)).0 both.0).0 in
    (point.0, point.1, both.1)

module _ (ε : Float) (above : lt zero ε ≡ true) where
  -- the last kept point p, and where the move before ended
  abbrev At : Vector2 → Vector2 → Type 0
  At p q = (near p q ε ≡ true) ⊎ (p ≡ q)

  at-near : (p q : Vector2) → At p q → finite p.x ≡ true → finite p.y ≡ true → near p q ε ≡ true
  at-near p q (inl h) x y = h
  at-near p q (inr h) x y = ap (λ (t : Vector2). near p t ε) (sym h) ∙ near-finite p ε x y above

  kept-unmet : (p q : Vector2) (ms : List Move) → At p q → Stays q ms → (vs : List PlineVertex) → all_finite (corners p (kept ε p ms) ++ vs) ≡ true → Unmet (kept ε p ms)
  kept-unmet p q [] here none vs f = λ m i e. Memᴰ.not-nil (rw (K.kept-nil move_end (λ x y. near x y ε) p) at i)
  kept-unmet p q (k ∷ ms) here (next stay s) vs f =
      by (near p k.end ε) refl (λ n g. kept-unmet p k.end ms (inl n) s vs g) (λ g. kept-unmet k.end k.end ms (inr refl) s vs g)
    where
      by : (n : Bool) → near p k.end ε ≡ n → (near p k.end ε ≡ true → all_finite (corners p (kept ε p ms) ++ vs) ≡ true → Unmet (kept ε p ms))
          → (all_finite (corners k.end (kept ε k.end ms) ++ vs) ≡ true → Unmet (kept ε k.end ms)) → Unmet (kept ε p (k ∷ ms))
      by true n dropped taken m i e =
          let same = K.kept_near move_end (λ x y. near x y ε) p k ms n in
          dropped n (rw same at f) m (rw same at i) e
      by false n dropped taken m i e =
          let same = K.kept_far move_end (λ x y. near x y ε) p k ms n in
          let w = left_finite p k (kept ε k.end ms) vs (rw same at f) in
          ⊎_elim
          (λ (t : m ≡ k). true≢false (sym (at-near p q here w.0 w.1) ∙ ap (λ (x : Vector2). near p x ε) (sym (stay (ap (λ (x : Move). x.reason) (sym t) ∙ e))) ∙ n))
          (λ r. taken w.2 m r e) (Memᴰ.cases_cons (rw same at i))

-- ---- what is drawn
open_corners : (p : Vector2) (ks : List Move) → all_finite (drawn_open p ks).vertices ≡ true → (vs : List PlineVertex) × (all_finite (corners p ks ++ vs) ≡ true)
unfolding drawn_open corners
open_corners p [] f = ([], f)
open_corners p (k ∷ ks) f = (vertex_at (last_point p (k ∷ ks)) zero ∷ [], f)

closed-corners : (p : Vector2) (ks : List Move) → (length ks ≡ 1 → ⊥) → all_finite (drawn_closed p ks).vertices ≡ true → all_finite (corners p ks ++ []) ≡ true
unfolding drawn_closed corners
closed-corners p [] o f = f
closed-corners p (k ∷ []) o f = absurd (o refl)
closed-corners p (k ∷ l ∷ ks) o f = rw (append-nil (corners p (k ∷ l ∷ ks))) f

module _ (σ : Settings) (a b : PlineVertex) (vs : List PlineVertex) where
  pub never_one : length (kept σ.eps (walk_start true σ a b vs) (walk_moves true σ a b vs)) ≡ 1 → ⊥
  never_one n =
      let c = closed-ends σ a b vs in
      let p = walk_start true σ a b vs in
      closed_never_one σ.eps p c.ends.before c.ends.closing c.ends.home c.some (ap (λ (ms : List Move). length (kept σ.eps p ms)) (sym c.ends.last) ∙ n)

  drawn-corners : (closed : Bool) → all_finite (walk_drawing closed σ a b vs).vertices ≡ true
      → (ws : List PlineVertex) × (all_finite (corners (walk_start closed σ a b vs) (kept σ.eps (walk_start closed σ a b vs) (walk_moves closed σ a b vs)) ++ ws) ≡ true)
  unfolding walk_drawing when◌give◌else◌
  drawn-corners true f = ([], closed-corners _ _ never_one f)
  drawn-corners false f = open_corners _ _ f

pub never_met : (closed : Bool) (σ : Settings) (a b : PlineVertex) (vs : List PlineVertex) → lt zero σ.eps ≡ true → all_finite (walk_drawing closed σ a b vs).vertices ≡ true
    → (m : Move) → Memᴰ m (kept σ.eps (walk_start closed σ a b vs) (walk_moves closed σ a b vs)) → m.reason ≡ Meeting → ⊥
never_met closed σ a b vs above f =
    let p = walk_start closed σ a b vs in
    let w = drawn-corners σ a b vs closed f in
    kept-unmet σ.eps above p p (walk_moves closed σ a b vs) (inr refl) (moves_stay σ closed a b vs p) w.0 w.1
