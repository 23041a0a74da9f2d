-- Demand 3: what is claimed of an accepted job with a nonzero offset and two vertices or more, but of a lone collapsed arc. It speaks of the answer and of the buffers
-- that the contract names. Proved in `proofs/Demand3.antt`. Definitions only.
use Rattle.std.specs.Prelude.{Ok, ◌≡◌, Bool, true, false, ◌+◌, ◌≤◌, ◌<◌, T, length, Float}
use mathlib.Core.List.{List, [], ◌∷◌, ◌++◌, map, Memᴰ}
use Rattle.std.specs.Float.Ieee.{eq, lt, le}
use Rattle.floats.specs.Binary64.{zero, one}
use Rattle.floats.specs.Size.{abs_of}
use Rattle.vectors.specs.Plane.{near}
use Rattle.vectors.specs.declared.Vector2.{Vector2}
use Rattle.segments.specs.declared.PlineVertex.{PlineVertex}
use Rattle.segments.specs.declared.SourceSegment.{SourceSegment}
use Rattle.segments.specs.Vertex.{pos_of}
use Rattle.source.specs.Source.{vertices_in, around}
use Rattle.moves.specs.declared.Move.{Move}
use Rattle.moves.specs.declared.Origin.TheVariants.{Connector}
use Rattle.moves.specs.Drawing.{Drawing, move_end, drawn_open, drawn_closed, empty_result, result_of}
use Rattle.moves.specs.Closing.{closed_by}
use Rattle.moves.specs.Choice.{OneChoice, Apart}
use Rattle.moves.specs.Sound.{Sound, invalids}
use Rattle.sheet.specs.Buffers.{shown}
use Rattle.walk.specs.Walk.{walk_start, walk_moves, lone_collapsed}
use Rattle.job.specs.Job.{result_in}
use Rattle.refusals.specs.Table.{number}
use Rattle.job.specs.Rows.{Job, outcome, count, places}

-- ---- of which jobs

pub record Walks (j : Job) : Type 0 where
  pub accepted : number (outcome j).answer ≡ 0
  pub nonzero : T (eq j.settings.offset zero) → ⊥
  pub two : 2 ≤ count j
  pub not-lone : lone_collapsed j.closed j.settings (vertices_in j.source) ≡ false

-- ---- the words of the claim

-- within the job's tolerance
abbrev pub close : Job → Vector2 → Vector2 → Bool
close j a b = near a b j.settings.eps

-- the walk over the job's source starts at p and has the moves ms
pub record WalkOf (j : Job) (p : Vector2) (ms : List Move) : Type 0 where
  pub a : PlineVertex
  pub b : PlineVertex
  pub others : List PlineVertex
  pub source : vertices_in j.source ≡ a ∷ b ∷ others
  pub start : p ≡ walk_start j.closed j.settings a b others
  pub moves : ms ≡ walk_moves j.closed j.settings a b others

-- An open walk's kept moves ks are drawn as they are: one vertex more than kept moves, or none.
pub record OpenOutput (j : Job) (p : Vector2) (ks : List Move) (d : Drawing) : Type 0 where
  pub drawn : d ≡ drawn_open p ks
  pub vertices : 0 < length ks → (result_in (outcome j).answer).vertices ≡ length ks + 1

-- A closed walk's last move, the closing one, ends at the first vertex p. The drawing is that of the kept moves ks, and it is what 01's closing rule (`closed_by`) makes of
-- the moves chosen before the closing one. It has as many vertices as there are kept moves, and exactly one move is never kept. Where the closing move was kept, the
-- last vertex and the first are apart too.
pub record ClosedOutput (j : Job) (p : Vector2) (ms ks : List Move) (d : Drawing) : Type 0 where
  pub before : List Move
  pub closing : Move
  pub last : ms ≡ before ++ closing ∷ []
  pub home : closing.end ≡ p
  pub drawn : d ≡ drawn_closed p ks
  pub earlier : List Move
  pub choice : OneChoice move_end (close j) p before earlier
  pub rule : d ≡ closed_by j.settings.eps p earlier closing
  pub vertices : (result_in (outcome j).answer).vertices ≡ length ks
  pub never_one : length ks ≡ 1 → ⊥
  pub apart : ks ≡ earlier ++ closing ∷ [] → Apart (close j) (map pos_of (around true d.vertices))

-- A bulge b is at most 1 in size, and never of the offset's sign: not both are above zero, and not both below.
pub record Against (offset b : Float) : Type 0 where
  pub small : T (le (abs_of b) one)
  pub not_both_above : T (lt zero offset) → T (lt zero b) → ⊥
  pub not_both_below : T (lt offset zero) → T (lt b zero) → ⊥

-- ---- the claim

pub record Demand3 (j : Job) : Type 0 where
  -- exactly one choice of the walk's moves keeps each move that ends outside tolerance of the last kept point and drops each other: it keeps ks
  pub start : Vector2
  pub moves : List Move
  pub walk : WalkOf j start moves
  pub ks : List Move
  pub choice : OneChoice move_end (close j) start moves ks
  -- the output, in the answer and in the first places of the buffers, is that choice with the closing rule
  pub drawing : Drawing
  pub answer : (outcome j).answer ≡ Ok (result_of drawing)
  pub buffers : (outcome j).buffers ≡ shown (places j) drawing j.buffers
  pub room : length drawing.vertices ≤ places j
  pub opened : j.closed ≡ false → OpenOutput j start ks drawing
  pub closed : j.closed ≡ true → ClosedOutput j start moves ks drawing
  -- the counts and the closed mark: of no kept move the empty open answer; else the source's mark; as many indexes as invalid kept moves
  pub none : length ks ≡ 0 → result_in (outcome j).answer ≡ empty_result
  pub mark : 0 < length ks → (result_in (outcome j).answer).closed ≡ j.closed
  pub indexes : (result_in (outcome j).answer).indexes ≡ invalids ks
  -- it never has one vertex; neighbours are never within tolerance; flags and rising indexes mark exactly the kept moves that are invalid; its origins are those of the kept
  -- moves, in order
  pub sound : Sound j.settings.eps ks drawing
  -- among kept moves each connector's bulge is at most 1 in size and never of the offset's sign
  pub connectors : (m : Move) (i : SourceSegment) → Memᴰ m ks → m.origin ≡ Connector i → Against j.settings.offset m.bulge
