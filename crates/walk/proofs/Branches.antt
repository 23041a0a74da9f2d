-- A move has a reason exactly when that branch of the rules was taken: of a span (`span↔`), of a connector (`connector↔`), and so of each move of a walk, which is made of the
-- rows of its own segment (`made`). Assumes nothing.
use mathlib.Core.Path.{◌≡◌, refl, sym, ap, ◌∙◌, subst}
use mathlib.Core.Logic.{◌↔◌, inl, inr, ⊎_elim}
use mathlib.Core.List.Memᴰ
use mathlib.Core.List.{List, [], ◌∷◌, ◌++◌, map, append-nil, Memᴰ}
use mathlib.Core.Bool.{Bool, true, false, true≢false}
use Prim.Native.Nat.{ℕ, suc}
use native.Mathlib.Nat.{add-zero}
use native.Mathlib.Numerals.{add-one}
use native.Mathlib.Omega.{arith}
use lib.ListN.{length, drop, get_or, length-drop}
use lib.Seq.{get_or-drop, drop-drop}
use lib.Ieee.{Float, le}
use Rattle.std.specs.Prelude.{Result, Ok, Err}
use Rattle.floats.specs.Choice.{when◌give◌else◌, ◌or◌}
use Rattle.vectors.specs.Plane.{near}
use Rattle.vectors.specs.declared.Vector2.{Vector2}
use Rattle.segments.specs.declared.PlineVertex.{PlineVertex}
use Rattle.segments.specs.declared.RawOffsetSeg.{RawOffsetSeg}
use Rattle.segments.specs.declared.RawOffsetSeg.TheVariants.{Line, Arc, Collapsed}
use Rattle.segments.specs.declared.Settings.{Settings}
use Rattle.segments.specs.Vertex.{pos_of}
use Rattle.segments.specs.Segment.{offset_seg, start_of, end_of, is_collapsed}
use Rattle.meetings.specs.declared.Meeting.{Meeting as TheMeeting}
use Rattle.meetings.specs.declared.Miss.{Miss}
use Rattle.meetings.specs.Meetings.{line_line_meeting, line_arc_meeting, arc_line_meeting, arc_arc_meeting}
use Rattle.joins.specs.declared.JoinTurn.{JoinTurn}
use Rattle.joins.specs.declared.JoinTurn.TheVariants as Turn
use Rattle.joins.specs.declared.JoinCause.TheVariants.{OuterTurn}
use Rattle.joins.specs.declared.JoinBoundary.{JoinBoundary}
use Rattle.joins.specs.Join.{rounded, trimmed_by, inner_join, turn_of, join_by, join_of}
use Rattle.joins.specs.Rules.{ruled_boundary}
use Rattle.joins.specs.Corner.{cornered, corner_join, Sharp}
use Rattle.joins.proofs.Made.{collapsed_never_meets}
use Rattle.joins.proofs.Corner.{Cornered, corner-made, sharp_made, never_both, corner-ends, outer_turn}
use Rattle.joins.proofs.Corner.Cornered.{same, sharp}
use Rattle.moves.specs.declared.Move.{Move}
use Rattle.moves.specs.declared.Reason.{Reason}
use Rattle.moves.specs.declared.Reason.TheVariants.{InOrder, TurnedBack, CollapsedArc, Round, Reversal, Meeting, CollapsedSide, NoMeeting, CandidatesMissed, ZeroTangent, SameDirection, Copied, Pointed}
use Rattle.moves.specs.Reason.{span_reason, connector_reason}
use Rattle.moves.specs.Made.{span_move, connector_moves}
use Rattle.moves.proofs.Tips.{connector_facts}
use Rattle.walk.specs.Walk.{join_at, walk, open_last, closed_last, last_vertex, closing_join, walk_moves}
use Rattle.walk.specs.Spans.{Corner, corner_at, join_in, turns_to, corners_from, closing_corner, corners_of, segs_from, segs_of, Edge, start_at, end_at, whole_start, whole_end, starts_of, ends_of}
use Rattle.walk.specs.Branches.{SpanBranch, Searched, ConnectorBranch, Is, Made}

-- a branch that was taken, and that alone
exactly : (B : Reason → Type 0) (r : Reason) → B r → ((q : Reason) → B q → r ≡ q) → (q : Reason) → (r ≡ q) ↔ B q
exactly B r took only q = (λ e. subst B e took, only q)

-- ---- a span
module _ (g : RawOffsetSeg) (from to : Float) where
  span_took : SpanBranch (span_reason g from to) g from to
  unfolding span_reason when◌give◌else◌
  span_took = by (is_collapsed g) (le to from) refl refl
    where
      by : (c t : Bool) → is_collapsed g ≡ c → le to from ≡ t → SpanBranch (when c give CollapsedArc else when t give TurnedBack else InOrder) g from to
      by true t h k = h
      by false true h k = (h, k)
      by false false h k = (h, k)

  span-only : (r : Reason) → SpanBranch r g from to → span_reason g from to ≡ r
  unfolding span_reason when◌give◌else◌
  span-only InOrder h = rw (h.0, h.1)
  span-only TurnedBack h = rw (h.0, h.1)
  span-only CollapsedArc h = rw h
  span-only Round h = absurd h
  span-only Reversal h = absurd h
  span-only Meeting h = absurd h
  span-only CollapsedSide h = absurd h
  span-only NoMeeting h = absurd h
  span-only CandidatesMissed h = absurd h
  span-only ZeroTangent h = absurd h
  span-only SameDirection h = absurd h
  span-only Copied h = absurd h
  span-only Pointed h = absurd h

  pub span↔ : (r : Reason) → (span_reason g from to ≡ r) ↔ SpanBranch r g from to
  span↔ = exactly (λ r. SpanBranch r g from to) (span_reason g from to) span_took span-only

-- ---- a connector

-- what an inner join makes of the search's answer
pub searched : (g h : RawOffsetSeg) (shared : Vector2) (ε : Float) (m : Result TheMeeting Miss) → Searched g h shared ε m → inner_join g h shared ε ≡ trimmed_by m (end_of g) (start_of h)
searched (Line a) (Line b) shared ε m s = rw s
searched (Line a) (Arc b) shared ε m s = rw s
searched (Line a) (Collapsed b) shared ε m s = absurd s
searched (Arc a) (Line b) shared ε m s = rw s
searched (Arc a) (Arc b) shared ε m s = rw s
searched (Arc a) (Collapsed b) shared ε m s = absurd s
searched (Collapsed a) h shared ε m s = absurd s

module _ (σ : Settings) where
  abbrev corner : RawOffsetSeg → RawOffsetSeg → Vector2 → Corner
  corner g h shared = record { current = g; next = h; shared = shared }

  met_took : (g h : RawOffsetSeg) (shared : Vector2) → turn_of g h σ ≡ Turn.Inner → (a b : Vector2) (m : Result TheMeeting Miss) → Searched g h shared σ.eps m
      → ConnectorBranch (connector_reason (trimmed_by m a b).cause) (corner g h shared) σ
  met_took g h shared e a b (Ok m) s = inr (e, (m, s))
  met_took g h shared e a b (Err Miss.NoMeeting) s = (e, s)
  met_took g h shared e a b (Err Miss.CandidatesMissed) s = (e, s)

  inner_took : (g h : RawOffsetSeg) (shared : Vector2) → turn_of g h σ ≡ Turn.Inner
      → ConnectorBranch (connector_reason (inner_join g h shared σ.eps).cause) (corner g h shared) σ
  inner_took (Line a) (Line b) shared e = met_took (Line a) (Line b) shared e _ _ (line_line_meeting a b σ.eps) refl
  inner_took (Line a) (Arc b) shared e = met_took (Line a) (Arc b) shared e _ _ (line_arc_meeting a b shared σ.eps) refl
  inner_took (Line a) (Collapsed b) shared e = (e, unfold ◌or◌ in refl)
  inner_took (Arc a) (Line b) shared e = met_took (Arc a) (Line b) shared e _ _ (arc_line_meeting a b shared σ.eps) refl
  inner_took (Arc a) (Arc b) shared e = met_took (Arc a) (Arc b) shared e _ _ (arc_arc_meeting a b shared σ.eps) refl
  inner_took (Arc a) (Collapsed b) shared e = (e, unfold ◌or◌ in refl)
  inner_took (Collapsed a) h shared e = (e, unfold ◌or◌ in refl)

  module _ (k : Corner) where
    -- 000's join, which has no tip
    turn_took : (t : JoinTurn) → turn_of k.current k.next σ ≡ t
        → ((join_by t k.current k.next k.shared σ).cause ≡ OuterTurn → Sharp k.current k.next k.shared σ → ⊥)
        → ConnectorBranch (connector_reason (join_by t k.current k.next k.shared σ).cause) k σ
    unfolding rounded
    turn_took Turn.Coincident e n = inl e
    turn_took Turn.ZeroTangent e n = e
    turn_took Turn.SameDirection e n = e
    turn_took Turn.Reversal e n = e
    turn_took Turn.Outer e n = (e, n refl)
    turn_took Turn.Inner e n = inner_took k.current k.next k.shared e

    abbrev unmoded : JoinBoundary
    unmoded = join_of k.current k.next k.shared σ

    abbrev its : JoinBoundary
    its = corner_join k.current k.next k.shared σ

    plain_took : (unmoded.cause ≡ OuterTurn → Sharp k.current k.next k.shared σ → ⊥) → ConnectorBranch (connector_reason unmoded.cause) k σ
    unfolding join_of
    plain_took = turn_took (turn_of k.current k.next σ) refl

    connector_took : ConnectorBranch (connector_reason its.cause) k σ
    unfolding corner_join
    connector_took = by (corner-made k.current k.next k.shared σ unmoded)
      where
        by : Cornered k.current k.next k.shared σ unmoded → ConnectorBranch (connector_reason (cornered k.current k.next k.shared σ unmoded).cause) k σ
        by (same e) = rw e (plain_took (never_both k.current k.next k.shared σ unmoded e))
        by (sharp s o e) = rw e (outer_turn k.current k.next k.shared σ o, s)

    outer_is : turn_of k.current k.next σ ≡ Turn.Outer → unmoded.cause ≡ OuterTurn
    unfolding join_of rounded
    outer_is h = rw h

    -- of 000's join; an outer turn's is round
    plain_only : (r : Reason) → ConnectorBranch r k σ → (r ≡ Pointed → ⊥) → connector_reason unmoded.cause ≡ r
    unfolding join_of rounded
    plain_only InOrder h n = absurd h
    plain_only TurnedBack h n = absurd h
    plain_only CollapsedArc h n = absurd h
    plain_only Round h n = rw h.0
    plain_only Reversal h n = rw h
    plain_only Meeting (inl h) n = rw h
    plain_only Meeting (inr h) n = rw (h.0, searched k.current k.next k.shared σ.eps (Ok h.1.0) h.1.1)
    plain_only CollapsedSide h n = rw (h.0, collapsed_never_meets k.current k.next k.shared σ.eps h.1)
    plain_only NoMeeting h n = rw (h.0, searched k.current k.next k.shared σ.eps (Err Miss.NoMeeting) h.1)
    plain_only CandidatesMissed h n = rw (h.0, searched k.current k.next k.shared σ.eps (Err Miss.CandidatesMissed) h.1)
    plain_only ZeroTangent h n = rw h
    plain_only SameDirection h n = rw h
    plain_only Copied h n = absurd h
    plain_only Pointed h n = absurd (n refl)

    -- a reason whose branch excludes a tip is that of 000's join
    unsharp : (r : Reason) → ConnectorBranch r k σ → (r ≡ Pointed → ⊥) → (r ≡ Round → ⊥) → Sharp k.current k.next k.shared σ → unmoded.cause ≡ OuterTurn → ⊥
    unsharp r h n m s o = m (sym (plain_only r h n) ∙ ap connector_reason o)

    kept_plain : (unmoded.cause ≡ OuterTurn → Sharp k.current k.next k.shared σ → ⊥) → its.cause ≡ unmoded.cause
    unfolding corner_join
    kept_plain n = by (corner-made k.current k.next k.shared σ unmoded)
      where
        by : Cornered k.current k.next k.shared σ unmoded → (cornered k.current k.next k.shared σ unmoded).cause ≡ unmoded.cause
        by (same e) = ap (λ (x : JoinBoundary). x.cause) e
        by (sharp s o e) = absurd (n o s)

    plain : (r : Reason) → ConnectorBranch r k σ → (r ≡ Pointed → ⊥) → (r ≡ Round → ⊥) → connector_reason its.cause ≡ r
    plain r h n m = ap connector_reason (kept_plain (λ o s. unsharp r h n m s o)) ∙ plain_only r h n

    connector-only : (r : Reason) → ConnectorBranch r k σ → connector_reason its.cause ≡ r
    connector-only InOrder h = absurd h
    connector-only TurnedBack h = absurd h
    connector-only CollapsedArc h = absurd h
    connector-only Round h = ap connector_reason (kept_plain (λ o s. h.1 s)) ∙ plain_only Round h (λ e. true≢false (cc))
    connector-only Reversal h = plain Reversal h (λ e. true≢false (cc)) (λ e. true≢false (cc))
    connector-only Meeting h = plain Meeting h (λ e. true≢false (cc)) (λ e. true≢false (cc))
    connector-only CollapsedSide h = plain CollapsedSide h (λ e. true≢false (cc)) (λ e. true≢false (cc))
    connector-only NoMeeting h = plain NoMeeting h (λ e. true≢false (cc)) (λ e. true≢false (cc))
    connector-only CandidatesMissed h = plain CandidatesMissed h (λ e. true≢false (cc)) (λ e. true≢false (cc))
    connector-only ZeroTangent h = plain ZeroTangent h (λ e. true≢false (cc)) (λ e. true≢false (cc))
    connector-only SameDirection h = plain SameDirection h (λ e. true≢false (cc)) (λ e. true≢false (cc))
    connector-only Copied h = absurd h
    connector-only Pointed h = unfold corner_join in ap (λ (x : JoinBoundary). connector_reason x.cause) (sharp_made k.current k.next k.shared σ unmoded h.1 (outer_is h.0))

    pub connector↔ : (r : Reason) → (connector_reason its.cause ≡ r) ↔ ConnectorBranch r k σ
    connector↔ = exactly (λ r. ConnectorBranch r k σ) (connector_reason its.cause) connector_took connector-only

-- ---- rows

module _ {A : Type 0} (xs : List A) (i : ℕ) {rest : List A} {x : A} (e : drop i xs ≡ x ∷ rest) where
  -- row i, whatever stands for one that is not there
  pub row_at : (d : A) → get_or xs i d ≡ x
  row_at d = ap (λ (n : ℕ). get_or xs n d) (sym (add-zero i)) ∙ sym (get_or-drop i xs 0 d) ∙ ap (λ (t : List A). get_or t 0 d) e

  pub row : Is xs i x
  row = record { there = let n = ap length e in omega (arith, length-drop i xs); is = row_at x }

  -- the rows after it

  pub rows_on : drop (suc i) xs ≡ rest
  rows_on = ap (λ (n : ℕ). drop n xs) (sym (add-one i)) ∙ sym (drop-drop 1 i xs) ∙ ap (drop 1) e

-- ---- the moves of the walk over a source a₀, b₀, vs₀
module _ (closed : Bool) (σ : Settings) (a₀ b₀ : PlineVertex) (vs₀ : List PlineVertex) where
  abbrev AllMade : List Move → Type 0
  AllMade ms = (m : Move) → Memᴰ m ms → Made closed σ a₀ b₀ vs₀ m m.origin

  none : AllMade []
  none m h = absurd (Memᴰ.not-nil h)

  and_then : (m : Move) (ms : List Move) → Made closed σ a₀ b₀ vs₀ m m.origin → AllMade ms → AllMade (m ∷ ms)
  and_then m ms this on k h = ⊎_elim (λ (q : k ≡ m). subst (λ (x : Move). Made closed σ a₀ b₀ vs₀ x x.origin) (sym q) this) (λ r. on k r) (Memᴰ.cases_cons h)

  abbrev pub last_edge : Edge
  last_edge = when closed give end_at (join_in σ (closing_corner σ a₀ b₀ vs₀)) else whole_end

  abbrev pub last_corners : List Corner
  last_corners = when closed give closing_corner σ a₀ b₀ vs₀ ∷ [] else []

  -- the rows from i on are those of a walk from a by b over vs, whose first span starts at s
  pub record On (i : ℕ) (a b : PlineVertex) (s : Edge) (vs : List PlineVertex) : Type 0 where
    pub segs : drop i (segs_of closed σ a₀ b₀ vs₀) ≡ segs_from σ a b vs
    pub starts : drop i (starts_of closed σ a₀ b₀ vs₀) ≡ s ∷ map (λ (k : Corner). start_at (join_in σ k)) (corners_from σ a b vs)
    pub ends : drop i (ends_of closed σ a₀ b₀ vs₀) ≡ map (λ (k : Corner). end_at (join_in σ k)) (corners_from σ a b vs) ++ last_edge ∷ []
    pub corners : drop i (corners_of closed σ a₀ b₀ vs₀) ≡ corners_from σ a b vs ++ last_corners

  -- a move of these rows before others
  span-made : (i : ℕ) (g : RawOffsetSeg) (s e : Edge) (p : Vector2) (ms : List Move) → Is (segs_of closed σ a₀ b₀ vs₀) i g → Is (starts_of closed σ a₀ b₀ vs₀) i s
      → Is (ends_of closed σ a₀ b₀ vs₀) i e → AllMade ms → AllMade (span_move i g s.param p e.param ∷ ms)
  unfolding span_move
  span-made i g s e p ms hg hs he on =
      and_then _ ms (record { segment = g; start = s; end = e; segment-is = hg; start_is = hs; end_is = he; point = p; is = refl; because = span↔ g s.param e.param }) on

  connector-made : (i : ℕ) (a b c : PlineVertex) (ms : List Move) → Is (corners_of closed σ a₀ b₀ vs₀) i (corner_at σ a b c) → AllMade ms → AllMade (connector_moves i (join_at σ a b c) ++ ms)
  unfolding join_at
  connector-made i a b c ms h on = among-made _ (λ m here. here)
    where
      k : Corner
      k = corner_at σ a b c

      its : List Move
      its = connector_moves i (join_at σ a b c)

      one-made : (m : Move) → Memᴰ m its → Made closed σ a₀ b₀ vs₀ m m.origin
      one-made m here =
          let f = connector_facts i (join_at σ a b c) m here in
          subst (Made closed σ a₀ b₀ vs₀ m) (sym f.0) (record { corner = k; corner-is = h; among = here; because = λ r. rw f.1 (connector↔ σ k r) })

      among-made : (ns : List Move) → ((m : Move) → Memᴰ m ns → Memᴰ m its) → AllMade (ns ++ ms)
      among-made [] sub = on
      among-made (n ∷ ns) sub = and_then n (ns ++ ms) (one-made n (sub n (Memᴰ.head refl))) (among-made ns (λ m r. sub m (Memᴰ.tail r)))

  -- a turn, and the rows after it
  turn-made : {i : ℕ} {a b c : PlineVertex} {s : Edge} {vs : List PlineVertex} (ms : List Move) → On i a b s (c ∷ vs) → AllMade ms
      → let j = join_at σ a b c in AllMade (span_move i (offset_seg a b σ.offset) s.param j.current_end j.current_param ∷ connector_moves i j ++ ms)
  unfolding segs_from corners_from join_at ruled_boundary
  turn-made {i} {a} {b} {c} {s} ms o on =
      let j = join_at σ a b c in
      subst (λ (t : Float). AllMade (span_move i (offset_seg a b σ.offset) s.param j.current_end t ∷ connector_moves i j ++ ms))
      (sym (corner-ends (offset_seg a b σ.offset) (offset_seg b c σ.offset) (pos_of b) σ).current_param)
      (span-made i (offset_seg a b σ.offset) s (end_at (join_in σ (corner_at σ a b c))) _ _ (row _ _ o.segs) (row _ _ o.starts) (row _ _ o.ends)
      (connector-made i a b c ms (row _ _ o.corners) on))

  pub turned : {i : ℕ} {a b c : PlineVertex} {s : Edge} {vs : List PlineVertex} → On i a b s (c ∷ vs) → On (suc i) b c (start_at (join_in σ (corner_at σ a b c))) vs
  unfolding segs_from corners_from
  turned {i} o = record {
    segs = rows_on (segs_of closed σ a₀ b₀ vs₀) i o.segs;
    starts = rows_on (starts_of closed σ a₀ b₀ vs₀) i o.starts;
    ends = rows_on (ends_of closed σ a₀ b₀ vs₀) i o.ends;
    corners = rows_on (corners_of closed σ a₀ b₀ vs₀) i o.corners;
  }

  -- the last span
  last_made : {i : ℕ} {a b : PlineVertex} {s : Edge} (p : Vector2) (ms : List Move) → On i a b s [] → AllMade ms
      → AllMade (span_move i (offset_seg a b σ.offset) s.param p last_edge.param ∷ ms)
  unfolding segs_from corners_from
  last_made {i} {a} {b} {s} p ms o on = span-made i (offset_seg a b σ.offset) s last_edge p ms (row _ _ o.segs) (row _ _ o.starts) (row _ _ o.ends) on

  walk-made : (last : ℕ → RawOffsetSeg → Float → List Move) → ((i : ℕ) (a b : PlineVertex) (s : Edge) → On i a b s [] → AllMade (last i (offset_seg a b σ.offset) s.param))
      → (i : ℕ) (a b : PlineVertex) (s : Edge) (vs : List PlineVertex) → On i a b s vs → AllMade (walk last σ i a b s.param vs)
  unfolding walk join_at ruled_boundary
  walk-made last h i a b s [] o = h i a b s o
  walk-made last h i a b s (c ∷ vs) o =
      turn-made _ o
      (subst (λ (t : Float). AllMade (walk last σ (suc i) b c t vs)) (sym (corner-ends (offset_seg a b σ.offset) (offset_seg b c σ.offset) (pos_of b) σ).next_param)
      (walk-made last h (suc i) b c (start_at (join_in σ (corner_at σ a b c))) vs (turned o)))

  pub first : On 0 a₀ b₀ (when closed give start_at (join_in σ (closing_corner σ a₀ b₀ vs₀)) else whole_start) (turns_to closed a₀ vs₀)
  unfolding segs_of starts_of ends_of corners_of
  first = record { segs = refl; starts = refl; ends = refl; corners = refl }

-- ---- open and closed
module _ (σ : Settings) (a₀ b₀ : PlineVertex) (vs₀ : List PlineVertex) where
  open_last_lem : (i : ℕ) (a b : PlineVertex) (s : Edge) → On false σ a₀ b₀ vs₀ i a b s [] → AllMade false σ a₀ b₀ vs₀ (open_last i (offset_seg a b σ.offset) s.param)
  unfolding open_last when◌give◌else◌
  open_last_lem i a b s o = last_made false σ a₀ b₀ vs₀ _ [] o (none false σ a₀ b₀ vs₀)

  closed-last : (i : ℕ) (a b : PlineVertex) (s : Edge) → On true σ a₀ b₀ vs₀ i a b s []
      → AllMade true σ a₀ b₀ vs₀ (closed_last (closing_join σ a₀ b₀ vs₀) σ.eps i (offset_seg a b σ.offset) s.param)
  unfolding closed_last closing_join join_at ruled_boundary when◌give◌else◌ corners_from
  closed-last i a b s o = subst (λ (t : Float). AllMade true σ a₀ b₀ vs₀ (last t near-ends)) (sym ends) (by near-ends)
    where
      j : JoinBoundary
      j = closing_join σ a₀ b₀ vs₀

      span : Vector2 → Move
      span p = span_move i (offset_seg a b σ.offset) s.param p (last_edge true σ a₀ b₀ vs₀).param

      near-ends : Bool
      near-ends = near j.current_end j.next_start σ.eps

      last : Float → Bool → List Move
      last t n =
          when n give span_move i (offset_seg a b σ.offset) s.param j.next_start t ∷ [] else
          span_move i (offset_seg a b σ.offset) s.param j.current_end t ∷ connector_moves i j

      ends : j.current_param ≡ (last_edge true σ a₀ b₀ vs₀).param
      ends = (corner-ends (offset_seg (last_vertex b₀ vs₀) a₀ σ.offset) (offset_seg a₀ b₀ σ.offset) (pos_of a₀) σ).current_param

      by : (n : Bool) → AllMade true σ a₀ b₀ vs₀ (when n give span j.next_start ∷ [] else span j.current_end ∷ connector_moves i j)
      by true = last_made true σ a₀ b₀ vs₀ _ [] o (none true σ a₀ b₀ vs₀)
      by false =
          last_made true σ a₀ b₀ vs₀ _ _ o
          (subst (AllMade true σ a₀ b₀ vs₀) (append-nil (connector_moves i j)) (connector-made true σ a₀ b₀ vs₀ i _ a₀ b₀ [] (row _ _ o.corners) (none true σ a₀ b₀ vs₀)))

-- each move of a walk is made of the rows of its own segment, and has its reason as they say
pub made : (closed : Bool) (σ : Settings) (a b : PlineVertex) (vs : List PlineVertex) (m : Move) → Memᴰ m (walk_moves closed σ a b vs) → Made closed σ a b vs m m.origin
unfolding walk_moves closing_join join_at ruled_boundary when◌give◌else◌
made true σ a b vs =
    subst (λ (t : Float). AllMade true σ a b vs (walk (closed_last (closing_join σ a b vs) σ.eps) σ 0 a b t (vs ++ a ∷ [])))
    (sym (corner-ends (offset_seg (last_vertex b vs) a σ.offset) (offset_seg a b σ.offset) (pos_of a) σ).next_param) (walk-made true σ a b vs _ (closed-last σ a b vs) 0 a b _ _ (first true σ a b vs))
made false σ a b vs = walk-made false σ a b vs open_last (open_last_lem σ a b vs) 0 a b _ _ (first false σ a b vs)
