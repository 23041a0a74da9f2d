-- The branch of the rules that each reason stands for (02's 2026-01), for a span and for a connector. `proofs/Branches.antt` shows that a move has a reason exactly when that
-- branch was taken. Definitions only.
use Rattle.std.specs.Prelude.{◌≡◌, ◌⊎◌, ◌↔◌, Bool, true, false, ℕ, ◌<◌, length, get_or, Result, Ok, Err, Float}
use mathlib.Core.List.{List, Memᴰ}
use Rattle.std.specs.Float.Ieee.{le}
use Rattle.floats.specs.Choice.{◌or◌}
use Rattle.vectors.specs.declared.Vector2.{Vector2}
use Rattle.segments.specs.declared.Settings.{Settings}
use Rattle.segments.specs.declared.PlineVertex.{PlineVertex}
use Rattle.segments.specs.declared.RawOffsetSeg.{RawOffsetSeg}
use Rattle.segments.specs.declared.RawOffsetSeg.TheVariants.{Line, Arc, Collapsed}
use Rattle.segments.specs.Segment.{is_collapsed}
use Rattle.meetings.specs.declared.Meeting.{Meeting}
use Rattle.meetings.specs.declared.Miss.{Miss}
use Rattle.meetings.specs.Meetings.{line_line_meeting, line_arc_meeting, arc_line_meeting, arc_arc_meeting}
use Rattle.joins.specs.declared.JoinTurn.TheVariants as Turn
use Rattle.joins.specs.Join.{turn_of}
use Rattle.joins.specs.Corner.{corner_join, Sharp}
use Rattle.moves.specs.declared.Move.{Move}
use Rattle.moves.specs.declared.Origin.{Origin}
use Rattle.moves.specs.declared.Origin.TheVariants.{Span, Connector}
use Rattle.moves.specs.declared.Reason.{Reason}
use Rattle.moves.specs.declared.Reason.TheVariants.{InOrder, TurnedBack, CollapsedArc, Round, Reversal, Meeting as MeetingConnector, CollapsedSide, NoMeeting, CandidatesMissed, ZeroTangent, SameDirection, Copied, Pointed}
use Rattle.moves.specs.Made.{span_move, connector_moves}
use Rattle.walk.specs.Spans.{Corner, Edge, corners_of, segs_of, starts_of, ends_of}

-- ---- a span: of the segment g, from one parameter to another. Collapsed goes before turned back.
abbrev pub SpanBranch : Reason → RawOffsetSeg → Float → Float → Type 0
SpanBranch InOrder g from to = (is_collapsed g ≡ false) × (le to from ≡ false)
SpanBranch TurnedBack g from to = (is_collapsed g ≡ false) × (le to from ≡ true)
SpanBranch CollapsedArc g from to = is_collapsed g ≡ true
SpanBranch Round g from to = ⊥
SpanBranch Reversal g from to = ⊥
SpanBranch MeetingConnector g from to = ⊥
SpanBranch CollapsedSide g from to = ⊥
SpanBranch NoMeeting g from to = ⊥
SpanBranch CandidatesMissed g from to = ⊥
SpanBranch ZeroTangent g from to = ⊥
SpanBranch SameDirection g from to = ⊥
SpanBranch Copied g from to = ⊥
SpanBranch Pointed g from to = ⊥

-- ---- a connector

-- the search for a meeting of two segments answers m; with a collapsed side nothing is searched for
abbrev pub Searched : RawOffsetSeg → RawOffsetSeg → Vector2 → Float → Result Meeting Miss → Type 0
Searched (Line a) (Line b) shared ε m = line_line_meeting a b ε ≡ m
Searched (Line a) (Arc b) shared ε m = line_arc_meeting a b shared ε ≡ m
Searched (Line a) (Collapsed b) shared ε m = ⊥
Searched (Arc a) (Line b) shared ε m = arc_line_meeting a b shared ε ≡ m
Searched (Arc a) (Arc b) shared ε m = arc_arc_meeting a b shared ε ≡ m
Searched (Arc a) (Collapsed b) shared ε m = ⊥
Searched (Collapsed a) next shared ε m = ⊥

-- of a corner: coincident ends, or an inner meeting, make a meeting connector; an outer turn makes round ones, or, where 02's 2026-13 has a tip, pointed ones
abbrev pub ConnectorBranch : Reason → Corner → Settings → Type 0
ConnectorBranch InOrder k σ = ⊥
ConnectorBranch TurnedBack k σ = ⊥
ConnectorBranch CollapsedArc k σ = ⊥
ConnectorBranch Round k σ = (turn_of k.current k.next σ ≡ Turn.Outer) × (Sharp k.current k.next k.shared σ → ⊥)
ConnectorBranch Reversal k σ = turn_of k.current k.next σ ≡ Turn.Reversal
ConnectorBranch MeetingConnector k σ =
    (turn_of k.current k.next σ ≡ Turn.Coincident)
    ⊎ ((turn_of k.current k.next σ ≡ Turn.Inner) × ((m : Meeting) × Searched k.current k.next k.shared σ.eps (Ok m)))
ConnectorBranch CollapsedSide k σ = (turn_of k.current k.next σ ≡ Turn.Inner) × ((is_collapsed k.current or is_collapsed k.next) ≡ true)
ConnectorBranch NoMeeting k σ = (turn_of k.current k.next σ ≡ Turn.Inner) × Searched k.current k.next k.shared σ.eps (Err Miss.NoMeeting)
ConnectorBranch CandidatesMissed k σ = (turn_of k.current k.next σ ≡ Turn.Inner) × Searched k.current k.next k.shared σ.eps (Err Miss.CandidatesMissed)
ConnectorBranch ZeroTangent k σ = turn_of k.current k.next σ ≡ Turn.ZeroTangent
ConnectorBranch SameDirection k σ = turn_of k.current k.next σ ≡ Turn.SameDirection
ConnectorBranch Copied k σ = ⊥
ConnectorBranch Pointed k σ = (turn_of k.current k.next σ ≡ Turn.Outer) × Sharp k.current k.next k.shared σ

-- ---- the moves of the walk over a source a, b, vs

-- row i is there, and is x
pub record Is {A : Type 0} (xs : List A) (i : ℕ) (x : A) : Type 0 where
  pub there : i < length xs
  pub is : get_or xs i x ≡ x

-- the span of segment i, which ends at a point, is made of its own row, and has each reason exactly when that branch was taken
pub record SpanMade (closed : Bool) (σ : Settings) (a b : PlineVertex) (vs : List PlineVertex) (i : ℕ) (m : Move) : Type 0 where
  pub segment : RawOffsetSeg
  pub start : Edge
  pub end : Edge
  pub segment-is : Is (segs_of closed σ a b vs) i segment
  pub start_is : Is (starts_of closed σ a b vs) i start
  pub end_is : Is (ends_of closed σ a b vs) i end
  pub point : Vector2
  pub is : m ≡ span_move i segment start.param point end.param
  pub because : (r : Reason) → (m.reason ≡ r) ↔ SpanBranch r segment start.param end.param

-- a connector after it, one of those of its corner
pub record ConnectorMade (closed : Bool) (σ : Settings) (a b : PlineVertex) (vs : List PlineVertex) (i : ℕ) (m : Move) : Type 0 where
  pub corner : Corner
  pub corner-is : Is (corners_of closed σ a b vs) i corner
  pub among : Memᴰ m (connector_moves i (corner_join corner.current corner.next corner.shared σ))
  pub because : (r : Reason) → (m.reason ≡ r) ↔ ConnectorBranch r corner σ

abbrev pub Made : Bool → Settings → PlineVertex → PlineVertex → List PlineVertex → Move → Origin → Type 0
Made closed σ a b vs m (Span i) = SpanMade closed σ a b vs i.0 m
Made closed σ a b vs m (Connector i) = ConnectorMade closed σ a b vs i.0 m
