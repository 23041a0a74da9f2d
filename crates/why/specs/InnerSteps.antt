-- What a walk that is asked for a stroke does at each step. No rule rests on these: `proofs/Asked.antt` ties them to the kept moves of the walk. Definitions only.
use Rattle.std.specs.Prelude.{◌≡◌, ℕ, ◌+◌, ◌*◌, ◌<◌, List, [], ◌∷◌, Bool, true, eqb, length, Float, Result, Ok, Err}
use Rattle.std.specs.Float.Ieee.{eq}
use Rattle.floats.specs.Binary64 as B
use Rattle.floats.specs.Choice.{when◌give◌else◌, ◌and◌}
use Rattle.segments.specs.declared.Settings.{Settings}
use Rattle.segments.specs.declared.PlineVertex.{PlineVertex}
use Rattle.segments.specs.Vertex.{vertex_at}
use Rattle.segments.specs.Segment.{end_of, is_collapsed}
use Rattle.refusals.specs.declared.Refusal.TheVariants.{NotFinite, NoSuchSegment}
use Rattle.joins.specs.declared.JoinBoundary.{JoinBoundary}
use Rattle.joins.specs.declared.JoinCause.TheVariants.{Coincident}
use Rattle.joins.specs.Boundary.{straight}
use Rattle.moves.specs.declared.Move.{Move}
use Rattle.moves.specs.declared.Pen.{Pen}
use Rattle.moves.specs.declared.Stroke.{Stroke}
use Rattle.moves.specs.Made.{connector_moves}
use Rattle.moves.specs.Drawing.{finite_vertex, all_finite}
use Rattle.moves.specs.InnerSteps.{step_of, sure}
use Rattle.walk.specs.Walk.{drawing_of}
use Rattle.walk.specs.Spans.{start_at, end_at}
use Rattle.walk.specs.InnerSteps.{Stood, stood, Fit, standing_at, turn_to, span_to, last_span, drawn_by, advance}
use Rattle.why.specs.declared.Telling.{Telling}
use Rattle.why.specs.declared.Note.{Note}
use Rattle.why.specs.declared.Asking.{Asking}
use Rattle.source.specs.Source.{segments_of}
use Rattle.job.specs.Verdict.{distinct_verdict}
use Rattle.why.specs.Why.{telling_for, copy_answer, walk_answer, answer_by}
use Rattle.refusals.specs.declared.Refusal.{Refusal}

-- ---- strokes

-- what is told of a stroke between two boundaries
abbrev pub telling_in : JoinBoundary → JoinBoundary → Stroke → Telling
telling_in entry j s = telling_for (start_at entry) (end_at j) s.reason s.origin

-- the answer after a stroke, of which f tells: that with the number k is told
unfoldable pub told_if : (Stroke → Telling) → ℕ → Stroke → Result Telling Refusal → Result Telling Refusal
told_if f k s before = when eqb s.number.0 k give Ok (f s) else before

-- after a row of strokes
unfoldable pub answers_by : (Stroke → Telling) → ℕ → List Stroke → Result Telling Refusal → Result Telling Refusal
answers_by f k [] before = before
answers_by f k (s ∷ ss) before = answers_by f k ss (told_if f k s before)

-- whether all numbers are finite, those of the strokes too
unfoldable pub finitely : List Stroke → Bool → Bool
finitely [] before = before
finitely (s ∷ ss) before = finitely ss (finite_vertex s.vertex and before)

-- ---- moves

pub record Noted : Type 0 where
  pub pen : Pen
  pub answer : Result Telling Refusal
  pub finite : Bool

abbrev pub noted : Note → Noted
noted n = record { pen = n.pen; answer = n.answer; finite = sure n.doubt }

-- one move more, with n turns that still lead in
unfoldable pub note_of : (Stroke → Telling) → ℕ → ℕ → Move → Float → Noted → Noted
note_of f k n m ε before =
    let st = step_of before.pen m ε in
    record { pen = st.pen; answer = answers_by f k (drawn_by n st) before.answer; finite = finitely (drawn_by n st) before.finite }

-- moves one after the other
unfoldable pub notes_of : (Stroke → Telling) → ℕ → ℕ → List Move → Float → Noted → Noted
notes_of f k n [] ε before = before
notes_of f k n (m ∷ ms) ε before = notes_of f k n ms ε (note_of f k n m ε before)

-- ---- turns

-- where the walk stands, where its span starts, with the rules, and what is answered
pub record Asked : Type 0 where
  pub stood : Stood
  pub entry : JoinBoundary
  pub answer : Result Telling Refusal
  pub finite : Bool

abbrev pub asked : Asking → Asked
asked a = record { stood = stood a.walk; entry = a.entry; answer = a.answer; finite = sure a.doubt }

abbrev pub noted_of : Asked → Noted
noted_of q = record { pen = q.stood.pen; answer = q.answer; finite = q.finite }

unfoldable pub standing_asked : PlineVertex → ℕ → Asked
standing_asked a n = record { stood = standing_at a n; entry = (standing_at a n).walker.entry; answer = Err NoSuchSegment; finite = true }

-- after a turn that made the join j: an open walk's first span starts at its segment's start
unfoldable pub entry_after : ℕ → Bool → JoinBoundary → JoinBoundary → JoinBoundary
entry_after n closed j entry = when closed give j else when eqb n 1 give entry else j

unfoldable pub asked_turn : Bool → Settings → ℕ → PlineVertex → Asked → Asked
asked_turn closed σ k c q =
    let t = turn_to q.stood.walker c σ in
    let w = (advance closed σ c q.stood).stood in
    let f = telling_in q.entry t.join in
    let n = q.stood.leading in
    let all = notes_of f k n (t.span ∷ t.connectors) σ.eps (noted_of q) in
    record { stood = w; entry = entry_after n closed t.join w.walker.entry; answer = all.answer; finite = all.finite }

-- a turn for each vertex
unfoldable pub asks : Bool → Settings → ℕ → List PlineVertex → Asked → Asked
asks closed σ k [] q = q
asks closed σ k (c ∷ vs) q = asks closed σ k vs (asked_turn closed σ k c q)

-- what t turns need
pub record Ready (t : ℕ) (a : Asking) : Type 0 where
  pub fit : Fit a.walk
  pub sources : a.walk.source.0 + t < 0x1_0000_0000
  pub outputs : a.walk.pen.number.0 + 3 * t < 0x1_0000_0000

-- and over a source of v vertices, from place k on
pub record Starts (v k t : ℕ) (a : Asking) (vs : List PlineVertex) : Type 0 where
  pub long : v ≡ length vs
  pub below : k < v
  pub ready : Ready t a

-- ---- the end of a walk

unfoldable pub finish_of : Result Telling Refusal → Bool → Result Telling Refusal
finish_of answer finite = when finite give answer else Err NotFinite

-- an open walk that drew something ends with its last point as a vertex
unfoldable pub finish_open : Noted → Result Telling Refusal
finish_open n = when eqb n.pen.number.0 0 give n.answer else finish_of n.answer (finite_vertex (vertex_at n.pen.last B.zero) and n.finite)

unfoldable pub last_answer : Bool → Float → ℕ → Asked → Result Telling Refusal
last_answer alone ε k q =
    let w = q.stood.walker in
    let end = end_of w.current in
    when alone and is_collapsed w.current give Err NoSuchSegment else
    finish_open (note_of (telling_in q.entry (straight Coincident end end)) k 0 (last_span w) ε (noted_of q))

unfoldable pub closing_answer : JoinBoundary → Float → ℕ → Asked → Result Telling Refusal
closing_answer j ε k q =
    let w = q.stood.walker in
    let f = telling_in q.entry j in
    let all = notes_of f k 0 (span_to w j.current_end j.current_param ∷ connector_moves w.source.0 j) ε (noted_of q) in
    finish_of all.answer all.finite

-- the answer of a source's walk (01 §1, No. 6)
unfoldable pub drawn_answer : Bool → Settings → List PlineVertex → ℕ → Result Telling Refusal
drawn_answer closed σ vs k = finish_of (walk_answer closed σ vs k) (all_finite (drawing_of closed σ vs).vertices)

-- the answer from the zero offset on
unfoldable pub good_answer : Bool → Settings → List PlineVertex → ℕ → Result Telling Refusal
good_answer closed σ vs k =
    when eq σ.offset B.zero give copy_answer (segments_of closed (length vs)) k else
    answer_by (distinct_verdict closed σ vs) (walk_answer closed σ vs k)
