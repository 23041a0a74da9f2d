-- What the steps of storing and of the loop do to the places and to the lent buffers, and the room that they need. No rule rests on these: `proofs/Stored.antt` and
-- `proofs/Whole.antt` tie them to `drawing_of`, and `proofs/Holding.antt` to `shown`. Definitions only.
use Rattle.std.specs.Prelude.{Option, None, Some, ◌≡◌, ℕ, zero, suc, ◌+◌, ◌*◌, ◌-◌, ◌≤◌, ◌<◌, List, [], ◌∷◌, ◌++◌, Bool, true, false, not, eqb, length, set, take, drop, replicate, Float}
use Rattle.floats.specs.Binary64 as B
use Rattle.floats.specs.Binary64.{◌⊘◌}
use Rattle.floats.specs.Choice.{when◌give◌else◌, ◌and◌}
use Rattle.floats.specs.Size.{finite}
use Rattle.segments.specs.declared.Settings.{Settings}
use Rattle.segments.specs.declared.PlineVertex.{PlineVertex}
use Rattle.segments.specs.Modes.{are_pointed}
use Rattle.segments.specs.Vertex.{vertex_at}
use Rattle.segments.specs.Segment.{is_collapsed}
use Rattle.angles.specs.Angle.{tan_eighth, bulge_of}
use Rattle.source.specs.Source.{vertices_of, columns_of, Lent, rows, columns, vertices_in}
use Rattle.source.specs.InnerSteps.{vertex_of, next_of}
use Rattle.joins.specs.declared.JoinBoundary.{JoinBoundary}
use Rattle.joins.specs.Corner.{is_pointed}
use Rattle.moves.specs.declared.Move.{Move}
use Rattle.moves.specs.declared.Pen.{Pen}
use Rattle.moves.specs.declared.Stroke.{Stroke}
use Rattle.moves.specs.declared.Origin.{Origin}
use Rattle.moves.specs.declared.RawOffsetResult.{RawOffsetResult}
use Rattle.moves.specs.Reason.{is_invalid}
use Rattle.moves.specs.Drawing.{Drawing, bit, nothing, finite_vertex, all_finite, empty_result, result_of}
use Rattle.moves.specs.Made.{segment_of, connector_moves}
use Rattle.moves.specs.InnerSteps.{step_of, sure}
use Rattle.walk.specs.declared.Walk.{Walk}
use Rattle.walk.specs.declared.Turned.{Turned}
use Rattle.walk.specs.Walk.{moves_a_segment}
use Rattle.walk.specs.InnerSteps.{Standing, stands, Stood, stood, Fit, span_to, last_span, drawn_by, strokes_by, advance}
use Rattle.sheet.specs.declared.Places.{Places}
use Rattle.sheet.specs.declared.Later.{Later}
use Rattle.sheet.specs.declared.Sheet.{Sheet}
use Rattle.sheet.specs.declared.lent.Marks.{Marks}
use Rattle.moves.specs.Origins.{origins_in}
use Rattle.sheet.specs.Buffers.{Buffers, buffers, padded, no_origin}

-- ---- what the buffers hold

-- which references lend them: of rows there is one
pub record Loans : Type 0 where
  pub x : ℕ
  pub y : ℕ
  pub bulge : ℕ

-- numbers, and by which references they are lent
pub record Loaned : Type 0 where
  pub numbers : Lent
  pub loans : Loans

-- The numbers that make no vertex: in rows those left over; in columns what stands past the shortest.
abbrev pub beyond : Lent → List (List Float)
beyond (rows ns) = drop (3 * length (vertices_of ns)) ns ∷ []
beyond (columns xs ys bs) = let n = length (columns_of xs ys bs) in drop n xs ∷ drop n ys ∷ drop n bs ∷ []

-- what they hold, whatever the layout
pub record Held : Type 0 where
  pub made : List PlineVertex
  pub beyond : List (List Float)
  pub loans : Loans

unfoldable pub held_by : Loaned → Held
held_by l = record { made = vertices_in l.numbers; beyond = beyond l.numbers; loans = l.loans }

-- which references lend the marks
pub record MarkLoans : Type 0 where
  pub flags : ℕ
  pub indexes : ℕ
  pub origins : ℕ

abbrev pub loans_of : Marks → MarkLoans
loans_of m = record { flags = m.flags.ghost_name; indexes = m.indexes.ghost_name; origins = m.origins.ghost_name }

-- and what all of them hold
pub record Contents : Type 0 where
  pub vertices : Held
  pub flags : List ℕ
  pub indexes : List ℕ
  pub origins : List Origin
  pub loans : MarkLoans

abbrev pub contents : Held → List ℕ → List ℕ → List Origin → MarkLoans → Contents
contents v f i o l = record { vertices = v; flags = f; indexes = i; origins = o; loans = l }

abbrev pub held : Loaned → Marks → Contents
held v m = contents (held_by v) m.flags.now m.indexes.now (origins_in m.origins.now) (loans_of m)

-- what they hold as lent numbers and lists
abbrev pub lent : Loaned → Marks → Buffers
lent v m = buffers v.numbers m.flags.now m.indexes.now (origins_in m.origins.now)

-- lent by the same references
pub record SameLoans (v : Loaned) (m : Marks) (v' : Loaned) (m' : Marks) : Type 0 where
  pub vertices : v'.loans ≡ v.loans
  pub marks : loans_of m' ≡ loans_of m

-- so many vertices fit
abbrev pub fitting : Contents → ℕ
fitting b = length b.vertices.made

-- other vertices, with the same numbers beyond them
abbrev pub making : List PlineVertex → Held → Held
making vs h = record { made = vs; beyond = h.beyond; loans = h.loans }

-- an unused vertex
abbrev pub blank : PlineVertex
blank = record { x = B.zero; y = B.zero; bulge = B.zero }

-- a drawing in the first `room` places
unfoldable pub showing : ℕ → Drawing → Contents → Contents
showing room d old = record {
  vertices = making (padded blank room d.vertices old.vertices.made) old.vertices;
  flags = padded 0 room d.flags old.flags;
  indexes = padded 0 room d.indexes old.indexes;
  origins = padded no_origin room d.origins old.origins;
  loans = old.loans;
}

-- ---- strokes

-- the first places, with nothing stored
abbrev pub no_places : Places
no_places = record { strokes = 0; marks = 0; doubt = B.zero }

-- how far it is stored: so many strokes and indexes, and whether all their numbers are finite
pub record Reached : Type 0 where
  pub strokes : ℕ
  pub marks : ℕ
  pub finite : Bool

abbrev pub reached : Places → Reached
reached p = record { strokes = p.strokes; marks = p.marks; finite = sure p.doubt }

-- and the buffers, which a stroke changes
pub record Laid : Type 0 where
  pub places : Reached
  pub buffers : Contents

abbrev pub laid : Places → Contents → Laid
laid p b = record { places = reached p; buffers = b }

-- a vertex at place k
abbrev pub put_at : Held → ℕ → PlineVertex → Held
put_at h k v = making (set h.made k v) h

-- a stroke at its places: its vertex, its flag and its origin, and its number where it is invalid
unfoldable pub stored : Stroke → Laid → Laid
stored s l = record {
  places = record {
    strokes = l.places.strokes + 1;
    marks = l.places.marks + bit (is_invalid s.reason);
    finite = finite_vertex s.vertex and l.places.finite;
  };
  buffers = record {
    vertices = put_at l.buffers.vertices l.places.strokes s.vertex;
    flags = set l.buffers.flags l.places.strokes (bit (is_invalid s.reason));
    indexes = when is_invalid s.reason give set l.buffers.indexes l.places.marks s.number.0 else l.buffers.indexes;
    origins = set l.buffers.origins l.places.strokes s.origin;
    loans = l.buffers.loans;
  };
}

-- a row of strokes
unfoldable pub stores : List Stroke → Laid → Laid
stores [] l = l
stores (s ∷ ss) l = stores ss (stored s l)

-- ---- a bulge that is written later

-- b as the bulge of the vertex at place k
unfoldable pub bulging : ℕ → Float → List PlineVertex → List PlineVertex
bulging k b [] = []
bulging zero b (v ∷ vs) = record { x = v.x; y = v.y; bulge = b } ∷ vs
bulging (suc k) b (v ∷ vs) = v ∷ bulging k b vs

abbrev pub bulge_at : Held → ℕ → Float → Held
bulge_at h k b = making (bulging k b h.made) h

-- where t holds
unfoldable pub bulged_at : Bool → ℕ → Float → Held → Held
bulged_at t k b h = when t give bulge_at h k b else h

-- the half of it is worked out
abbrev pub Begun : Later → Float → Type 0
Begun r half = r.due ≡ true → half ≡ tan_eighth (r.sweep ⊘ B.four)

-- what is left to be written counted as written
abbrev pub reached_later : Later → Reached → Reached
reached_later r p = record { strokes = p.strokes; marks = p.marks; finite = when r.due give finite (bulge_of r.sweep) and p.finite else p.finite }

unfoldable pub bulged : Later → Laid → Laid
bulged r l = record {
  places = reached_later r l.places;
  buffers = contents (bulged_at r.due r.place (bulge_of r.sweep) l.buffers.vertices) l.buffers.flags l.buffers.indexes l.buffers.origins l.buffers.loans;
}

-- what a turn leaves to be written: the bulge of its span, if that is an arc and is drawn, at place k
abbrev pub later_of : ℕ → Turned → Float → Later
later_of k t ε = record { due = t.curved and (eqb t.walk.leading 0 and (step_of t.walk.pen t.span ε).kept); place = k; sweep = t.sweep }

-- ---- turns

-- the walk, and the sheet that its strokes are stored on
pub record Trail : Type 0 where
  pub stood : Stood
  pub laid : Laid

abbrev pub trail : Sheet → Contents → Trail
trail h b = record { stood = stood h.walk; laid = laid h.places b }

abbrev pub trail_later : Walk → Places → Later → Contents → Trail
trail_later w p r b = record { stood = stood w; laid = bulged r (laid p b) }

-- one turn, stored
unfoldable pub advanced : Bool → Settings → PlineVertex → Trail → Trail
advanced closed σ c r =
    let a = advance closed σ c r.stood in
    record { stood = a.stood; laid = stores a.strokes r.laid }

-- a turn for each vertex
unfoldable pub advances : Bool → Settings → List PlineVertex → Trail → Trail
advances closed σ [] r = r
advances closed σ (c ∷ vs) r = advances closed σ vs (advanced closed σ c r)

-- the n vertices of a source of v from place k on: after the last comes the first
unfoldable pub routed : ℕ → ℕ → ℕ → List PlineVertex → List PlineVertex
routed v zero k s = []
routed v (suc n) k s = vertex_of s k ∷ routed v n (next_of v k) s

-- ---- room

-- the number of an origin fits its place
abbrev pub Coded : Origin → Type 0
Coded o = segment_of o < 0x8000_0000

-- there is room for t strokes more
pub record Rooms (t : ℕ) (l : Laid) : Type 0 where
  pub vertices : l.places.strokes + t ≤ fitting l.buffers
  pub flags : l.places.strokes + t ≤ length l.buffers.flags
  pub indexes : l.places.marks + t ≤ length l.buffers.indexes
  pub origins : l.places.strokes + t ≤ length l.buffers.origins

-- buffers of the same lengths
pub record Alike (b b' : Contents) : Type 0 where
  pub vertices : fitting b' ≡ fitting b
  pub flags : length b'.flags ≡ length b.flags
  pub indexes : length b'.indexes ≡ length b.indexes
  pub origins : length b'.origins ≡ length b.origins

-- what t turns need: a walk that can be joined on, numbers that fit, and room for m strokes a turn, but for those that lead in
pub record Turns (m t : ℕ) (w : Walk) (p : Places) (b : Contents) : Type 0 where
  pub fit : Fit w
  pub sources : w.source.0 + t < 0x8000_0000
  pub outputs : w.pen.number.0 + m * t + 1 < 0x1_0000_0000
  pub rooms : Rooms (m * (t - w.leading)) (laid p b)

-- and over a source of v vertices, from place k on
pub record Starts (m v k t : ℕ) (h : Sheet) (vs : List PlineVertex) (b : Contents) : Type 0 where
  pub long : v ≡ length vs
  pub below : k < v
  pub turns : Turns m t h.walk h.places b

-- a source of v vertices, and `room` places in each buffer
pub record Ready (v room : ℕ) (vs : List PlineVertex) (b : Contents) : Type 0 where
  pub long : v ≡ length vs
  pub two : 2 ≤ v
  pub most : v ≤ 4096
  pub vertices : room ≤ fitting b
  pub flags : room ≤ length b.flags
  pub indexes : room ≤ length b.indexes
  pub origins : room ≤ length b.origins

-- and so many for the moves of its n segments, in the mode that is told
pub record Drawable (v n room : ℕ) (σ : Settings) (pointed : Bool) (vs : List PlineVertex) (b : Contents) : Type 0 where
  pub ready : Ready v room vs b
  pub told : pointed ≡ are_pointed σ.corners
  pub enough : moves_a_segment σ.corners * n ≤ room
  pub small : room ≤ 12288

-- ---- the end of a walk

-- xs, and then what stood there before
abbrev pub over {ℓ} : {A : Type ℓ} → List A → List A → List A
over xs old = xs ++ drop (length xs) old

-- vertices, and then what stood there before
abbrev pub over_at : List PlineVertex → Held → Held
over_at vs h = making (over vs h.made) h

-- the lists of a drawing, written over the buffers
abbrev pub written : Drawing → Contents → Contents
written d old = contents (over_at d.vertices old.vertices) (over d.flags old.flags) (over d.indexes old.indexes) (over d.origins old.origins) old.loans

-- count places from `from` on set to z
abbrev pub cleared {ℓ} : {A : Type ℓ} → A → ℕ → ℕ → List A → List A
cleared z from count l = take from l ++ replicate count z ++ drop (from + count) l

abbrev pub cleared_at : ℕ → ℕ → Held → Held
cleared_at from count h = making (cleared blank from count h.made) h

-- zeros from vertex v, flag and origin f, and index i on, up to `room` places
unfoldable pub wiped : ℕ → ℕ → ℕ → ℕ → Contents → Contents
wiped room v f i old = record {
  vertices = cleared_at v (room - v) old.vertices;
  flags = cleared 0 f (room - f) old.flags;
  indexes = cleared 0 i (room - i) old.indexes;
  origins = cleared no_origin f (room - f) old.origins;
  loans = old.loans;
}

-- there is room for `room` places, and the counts are within it
pub record Within (room v f i : ℕ) (b : Contents) : Type 0 where
  pub small : room ≤ 12288
  pub from-vertex : v ≤ room
  pub from-flag : f ≤ room
  pub from-index : i ≤ room
  pub vertices : room ≤ fitting b
  pub flags : room ≤ length b.flags
  pub indexes : room ≤ length b.indexes
  pub origins : room ≤ length b.origins

-- what was built, and the buffers with it
pub record Finished : Type 0 where
  pub built : Option RawOffsetResult
  pub buffers : Contents

abbrev pub finished : Option RawOffsetResult → Contents → Finished
finished r b = record { built = r; buffers = b }

-- an answer whose numbers are all finite stands, with zeros after it; any other is refused, and its room set to zero
unfoldable pub finishes : ℕ → RawOffsetResult → Laid → Finished
finishes room r l =
    when l.places.finite give finished (Some r) (wiped room r.vertices l.places.strokes l.places.marks l.buffers) else
    finished None (wiped room 0 0 0 l.buffers)

-- an open walk that drew nothing is empty; any other has its last point as a vertex with bulge 0
unfoldable pub finishes_open : ℕ → Pen → Laid → Finished
finishes_open room pen l =
    let v = vertex_at pen.last B.zero in
    when eqb l.places.strokes 0 give finished (Some empty_result) (wiped room 0 0 0 l.buffers) else
    finishes room (record { vertices = l.places.strokes + 1; indexes = l.places.marks; closed = false })
    (record {
      places = record { strokes = l.places.strokes; marks = l.places.marks; finite = finite_vertex v and l.places.finite };
      buffers = contents (put_at l.buffers.vertices l.places.strokes v) l.buffers.flags l.buffers.indexes l.buffers.origins l.buffers.loans;
    })

-- the last span of an open walk: nothing is drawn of a collapsed arc that is alone
unfoldable pub lasts : ℕ → Bool → Float → Trail → Finished
lasts room alone ε r =
    let last = step_of r.stood.pen (last_span r.stood.walker) ε in
    when alone and is_collapsed r.stood.walker.current give finished (Some empty_result) (wiped room 0 0 0 r.laid.buffers) else
    finishes_open room last.pen (stores (drawn_by 0 last) r.laid)

-- the closing moves of a closed walk, by its closing join: the last span up to that join, and its connectors
abbrev pub closing_by : Standing → JoinBoundary → List Move
closing_by w k = span_to w k.current_end k.current_param ∷ connector_moves w.source.0 k

abbrev pub closing_moves : Walk → JoinBoundary → List Move
closing_moves w k = closing_by (stands w) k

unfoldable pub closes : ℕ → JoinBoundary → Float → Trail → Finished
closes room k ε r =
    let l = stores (strokes_by 0 r.stood.pen (closing_by r.stood.walker k) ε) r.laid in
    finishes room (record { vertices = l.places.strokes; indexes = l.places.marks; closed = not (eqb l.places.strokes 0) }) l

-- what the last t moves need
pub record Lasts (t room : ℕ) (h : Sheet) (b : Contents) : Type 0 where
  pub sources : h.walk.source.0 < 0x8000_0000
  pub outputs : h.walk.pen.number.0 + t < 0x1_0000_0000
  pub small : room ≤ 12288
  pub strokes : h.places.strokes + t ≤ room
  pub marks : h.places.marks + t ≤ room
  pub vertices : room ≤ fitting b
  pub flags : room ≤ length b.flags
  pub indexes : room ≤ length b.indexes
  pub origins : room ≤ length b.origins

-- a walk that is led in and has drawn nothing; the join that led it there has a tip in the pointed mode alone
pub record Entered (σ : Settings) (h : Sheet) : Type 0 where
  pub tipped : is_pointed h.walk.entry.cause ≡ true → are_pointed σ.corners ≡ true
  pub fit : Fit h.walk
  pub leading : h.walk.leading ≡ 0
  pub source : h.walk.source.0 ≡ 0
  pub number : h.walk.pen.number.0 ≡ 0
  pub strokes : h.places.strokes ≡ 0
  pub marks : h.places.marks ≡ 0

-- what becomes of a drawing d (01 §1, No. 6)
unfoldable pub built_of : ℕ → Drawing → Contents → Finished
built_of room d old = when all_finite d.vertices give finished (Some (result_of d)) (showing room d old) else finished None (showing room nothing old)
