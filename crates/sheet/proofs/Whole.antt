-- The end of a walk: what its strokes and the finishing steps leave is the drawing of the source, closed (`closed-built`) and open (`open_built`). Assumes nothing.
use mathlib.Core.Path.{◌≡◌, refl, sym, ap, ◌∙◌}
use mathlib.Core.List.{List, [], ◌∷◌, ◌++◌}
use mathlib.Core.Bool.{Bool, true, false, not, false≢true}
use Prim.Native.Nat.{ℕ, ◌+◌, ◌*◌, ◌-◌, ◌≤◌}
use native.Mathlib.Omega.{arith}
use borrow.Author.Tests.{ne_eqb}
use lib.Dec.{eqb, eqb-suc-zero}
use lib.ListN.{length, drop}
use lib.Ieee.{Float}
use Rattle.floats.specs.Binary64.{zero}
use Rattle.floats.specs.Choice.{when◌give◌else◌, ◌and◌}
use Rattle.vectors.specs.Plane.{near}
use Rattle.vectors.specs.declared.Vector2.{Vector2}
use Rattle.segments.specs.declared.PlineVertex.{PlineVertex}
use Rattle.segments.specs.declared.Settings.{Settings}
use Rattle.segments.specs.Modes.{are_pointed}
use Rattle.segments.specs.Vertex.{vertex_at}
use Rattle.segments.specs.Segment.{is_collapsed}
use Rattle.source.specs.InnerSteps.{vertex_of, next_of}
use Rattle.moves.specs.declared.Move.{Move}
use Rattle.moves.specs.declared.Stroke.{Stroke}
use Rattle.moves.specs.Made.{connector_move, connector_moves}
use Rattle.moves.specs.Drawing.{Drawing, nothing, move_end, kept, last_point, corners, flags_of, marks, origins_of, drawn_open, drawn_closed, finite_vertex, all_finite, empty_result, result_of}
use Rattle.moves.specs.InnerSteps.{step_of, Fits}
use Rattle.moves.proofs.Kept.{length-kept}
use Rattle.moves.proofs.Tips.{either_tip}
use Rattle.moves.proofs.Lists.{length-corners, length-flags_of}
use Rattle.moves.proofs.Shapes.{path, path_fits, ray, length_ray, ray_fits, nothing-fits}
use Rattle.joins.specs.declared.JoinBoundary.{JoinBoundary}
use Rattle.joins.specs.Corner.{is_pointed}
use Rattle.joins.proofs.Corner.{tip-mode}
use Rattle.walk.specs.Walk.{moves_a_segment, join_at, closing_join, walk_start, walk_moves, walk_drawing, lone_collapsed, drawing_of}
use Rattle.walk.specs.InnerSteps.{Stood, stood, Fit, standing_at, span_to, last_span, drawn_by, strokes_by, advance, goes, drawn_on}
use Rattle.walk.proofs.Turning.{led-undrawn}
use Rattle.walk.proofs.Around.{open_led, open_drawn, open_current, led_in, closed-led, closed-undrawn, closed-drawn}
use Rattle.walk.proofs.Unmet.{never_one}
use Rattle.walk.proofs.Lengths.{moves-few, two-moves, three-moves, open_most, closed-most}
use Rattle.sheet.specs.declared.Places.{Places}
use Rattle.sheet.specs.declared.Sheet.{Sheet}
use Rattle.std.specs.Prelude.{Some}
use Rattle.sheet.specs.Buffers.{no_origin}
use Rattle.sheet.specs.InnerSteps.{Contents, fitting, blank, making, Held, showing, no_places, Reached, Laid, laid, put_at, stores, Trail, trail, advanced, advances, routed, written}
use Rattle.sheet.specs.InnerSteps.{Rooms, Alike, Ready, Drawable, over, over_at, cleared, wiped, Within, Lasts, closing_moves, finished, finishes, finishes_open, lasts, closes, Entered, built_of}
use Rattle.sheet.proofs.Over.{over-set, cleared-after, cleared-whole}
use Rattle.sheet.proofs.Stored.{stores-append, stores-counted, drawn_over, stores-drawn}
use Rattle.sheet.proofs.Products.{product_less, product_most}
use Rattle.sheet.proofs.Storing.{strokes-few}
use Rattle.sheet.proofs.Bulges.{swap}
use Rattle.sheet.proofs.Routes.{length-routed, first_two, others, last-is, open_route, lead_route, around_route}
use Rattle.sheet.proofs.Loop.{advances_gone, laid_alike, trail_alike}

-- ---- the lists of a drawing, with zeros after them or in their place
module _ (room : ℕ) (d : Drawing) (old : Contents) (w : Fits room d) where
  origins-fit : length d.origins ≤ room
  origins-fit = omega (arith, w.flags, w.origins)

  written_after : wiped room (length d.vertices) (length d.flags) (length d.indexes) (written d old) ≡ showing room d old
  unfolding wiped showing
  written_after =
      let v = cleared-after blank room d.vertices old.vertices.made w.vertices in
      let f = cleared-after 0 room d.flags old.flags w.flags in
      let i = cleared-after 0 room d.indexes old.indexes w.indexes in
      let o = cleared-after no_origin room d.origins old.origins origins-fit in
      rw (v, f, i, ap (λ (n : ℕ). cleared no_origin n (room - n) (over d.origins old.origins)) (sym w.origins) ∙ o)

  written-whole : wiped room 0 0 0 (written d old) ≡ showing room nothing old
  unfolding wiped showing
  written-whole =
      let v = cleared-whole blank room d.vertices old.vertices.made w.vertices in
      let f = cleared-whole 0 room d.flags old.flags w.flags in
      let i = cleared-whole 0 room d.indexes old.indexes w.indexes in
      let o = cleared-whole no_origin room d.origins old.origins origins-fit in
      rw (v, f, i, o)

  finish-built :
      let places : Reached = record { strokes = length d.flags; marks = length d.indexes; finite = all_finite d.vertices } in
      finishes room (result_of d) (record { places = places; buffers = written d old }) ≡ built_of room d old
  unfolding finishes built_of
  finish-built = rw (written_after, written-whole)

built-nothing : (room : ℕ) (old : Contents) → finished (Some empty_result) (wiped room 0 0 0 old) ≡ built_of room nothing old
unfolding built_of all_finite when◌give◌else◌
built-nothing room old = rw (written-whole room nothing old (nothing-fits room))

-- ---- the two finishes
pub finite-snoc : (vs : List PlineVertex) (v : PlineVertex) → all_finite (vs ++ v ∷ []) ≡ (finite_vertex v and all_finite vs)
unfolding all_finite
finite-snoc [] v = refl
finite-snoc (u ∷ vs) v = ap (λ (t : Bool). finite_vertex u and t) (finite-snoc vs v) ∙ swap (finite_vertex u) (finite_vertex v) (all_finite vs)

closed-finish : (room : ℕ) (p : Vector2) (ks : List Move) (old : Contents) → (length ks ≡ 1 → ⊥) → length ks ≤ room
    → finishes room (record { vertices = length ks; indexes = length (marks 0 ks); closed = not (eqb (length ks) 0) }) (drawn_over p ks old) ≡ built_of room (drawn_closed p ks) old
unfolding drawn_closed corners
closed-finish room p [] old o l = unfold flags_of marks origins_of in finish-built room nothing old (nothing-fits room)
closed-finish room p (k ∷ []) old o l = absurd (o refl)
closed-finish room p (k ∷ m ∷ ks) old o l =
    let all = k ∷ m ∷ ks in
    let e : eqb (length all) 0 ≡ false = eqb-suc-zero (length (m ∷ ks)) in
    rw (e, length-flags_of all) (rw (length-corners p all, length-flags_of all) at (finish-built room (path p all true) old (path_fits room p all true l)))

-- the last point after the kept moves
put_last : (p : Vector2) (ks : List Move) (old : Held) → length ks + 1 ≤ length old.made
    → put_at (over_at (corners p ks) old) (length ks) (vertex_at (last_point p ks) zero) ≡ over_at (ray p ks).vertices old
put_last p ks old r =
    let q = vertex_at (last_point p ks) zero in
    let l = length-corners p ks in
    ap (λ (vs : List PlineVertex). making vs old) (rw (← l) (over-set (corners p ks) old.made q (omega arith)))

open_finish : (room : ℕ) (p : Vector2) (ks : List Move) (old : Contents) → length ks + 1 ≤ room → room ≤ fitting old
    → finishes_open room (record { last = last_point p ks; number = record { 0 = length ks } }) (drawn_over p ks old) ≡ built_of room (drawn_open p ks) old
unfolding finishes_open when◌give◌else◌ drawn_open corners
open_finish room p [] old l v = unfold flags_of marks origins_of in built-nothing room old
open_finish room p (k ∷ ks) old l v =
    let all = k ∷ ks in
    let e : eqb (length all) 0 ≡ false = eqb-suc-zero (length ks) in
    let h = finish-built room (ray p all) old (ray_fits room p all l) in
    rw (e, put_last p all old.vertices (omega arith), length-flags_of all) (rw (← length_ray p all, length-flags_of all, finite-snoc) at h)

-- ---- turns: where they lead, and the strokes on the way
advances-drawn : (closed : Bool) (σ : Settings) (vs : List PlineVertex) (r : Trail)
    → advances closed σ vs r ≡ record { stood = goes closed σ vs r.stood; laid = stores (drawn_on closed σ vs r.stood) r.laid }
unfolding advances advanced goes drawn_on stores
advances-drawn closed σ [] r = refl
advances-drawn closed σ (c ∷ vs) r =
    let a = advance closed σ c r.stood in
    advances-drawn closed σ vs (advanced closed σ c r) ∙ rw (stores-append a.strokes (drawn_on closed σ vs a.stood) r.laid)

-- ---- a lone segment: the turn that leads to it draws nothing
pub lone_is : (σ : Settings) (a b : PlineVertex) (vs : List PlineVertex)
    → (eqb (length vs + 2) 2 and is_collapsed (goes false σ (b ∷ vs) (standing_at a 1)).walker.current) ≡ lone_collapsed false σ (a ∷ b ∷ vs)
unfolding lone_collapsed ◌and◌
lone_is σ a b [] = rw open_current
lone_is σ a b (c ∷ vs) = rw (ne_eqb (length (c ∷ vs) + 2) 2 (λ (h : length (c ∷ vs) + 2 ≡ 2). omega arith))

lone-none : (σ : Settings) (a b : PlineVertex) (vs : List PlineVertex) (l : Laid) → lone_collapsed false σ (a ∷ b ∷ vs) ≡ true
    → stores (drawn_on false σ (b ∷ vs) (standing_at a 1)) l ≡ l
unfolding lone_collapsed
lone-none σ a b [] l h = unfold drawn_on advance standing_at stores in rw (led-undrawn 0 _ _ σ.eps)
lone-none σ a b (c ∷ vs) l h = absurd (false≢true h)

-- ---- a source that is lent: where its walk starts, and the moves of it that are kept
abbrev rest : List PlineVertex → List PlineVertex
rest s = drop 2 s

module _ (closed : Bool) (σ : Settings) (s : List PlineVertex) where
  abbrev start : Vector2
  start = walk_start closed σ (vertex_of s 0) (vertex_of s 1) (rest s)

  abbrev moves : List Move
  moves = kept σ.eps start (walk_moves closed σ (vertex_of s 0) (vertex_of s 1) (rest s))

  few : length moves ≤ length (walk_moves closed σ (vertex_of s 0) (vertex_of s 1) (rest s))
  few = length-kept move_end (λ x y. near x y σ.eps) _ _

-- all turns of a walk from the vertex a, n of which lead in
abbrev walked : Bool → Settings → List PlineVertex → PlineVertex → ℕ → Contents → Trail
walked closed σ vs a n old = advances closed σ vs (record { stood = standing_at a n; laid = laid no_places old })

-- ---- after turns from the first places on there is room for the last t moves
pub lasts_after : (closed : Bool) (σ : Settings) (s : List PlineVertex) (v n k t room : ℕ) (h h' : Sheet) {b b' : Contents} → Ready v room s b
    → (h.places.strokes ≡ 0) × (h.places.marks ≡ 0) × (h.walk.pen.number.0 ≡ 0) × (h.walk.source.0 ≡ 0)
    → moves_a_segment σ.corners * (n - h.walk.leading) + t ≤ room → (n ≤ 4096) × (t ≤ 3) → room ≤ 12288
    → trail h' b' ≡ advances closed σ (routed v n k s) (trail h b) → Lasts t room h' b'
lasts_after closed σ s v n k t room h h' {b} ready none few most small e =
    let alike = trail_alike closed σ (routed v n k s) h h' e in
    let l = length-routed v n k s in
    let g = rw (l, ← e) at (advances_gone closed σ (routed v n k s) (trail h b)) in
    let m = product_most (moves_a_segment σ.corners) 3 n (moves-few σ.corners) in
    record {
      sources = omega (arith, g.source, none.3, most.0);
      outputs = omega (arith, g.number, none.2, m, most.0, most.1);
      small = small;
      strokes = omega (arith, g.strokes, none.0, few);
      marks = omega (arith, g.marks, none.1, few);
      vertices = omega (arith, ready.vertices, alike.vertices);
      flags = omega (arith, ready.flags, alike.flags);
      indexes = omega (arith, ready.indexes, alike.indexes);
      origins = omega (arith, ready.origins, alike.origins);
    }

-- of an open walk
pub first-lasts : (σ : Settings) (s : List PlineVertex) (v k room : ℕ) (pointed : Bool) (a : PlineVertex) (h h' : Sheet) {b b' : Contents} → Drawable v (v - 1) room σ pointed s b
    → (stood h.walk ≡ standing_at a 1) × Fit h.walk × (h.places ≡ no_places) → trail h' b' ≡ advances false σ (routed v (v - 1) k s) (trail h b) → Lasts 2 room h' b'
unfolding standing_at
first-lasts σ s v k room pointed a h h' d first e =
    let leading : h.walk.leading ≡ 1 = ap (λ (x : Stood). x.leading) first.0 in
    let m = product_less (moves_a_segment σ.corners) (v - 1) (omega (arith, d.ready.two)) in
    let few : moves_a_segment σ.corners * (v - 1 - h.walk.leading) + 2 ≤ room = rw leading (omega (arith, m, d.enough, two-moves σ.corners)) in
    lasts_after false σ s v (v - 1) k 2 room h h' d.ready (
      ap (λ (x : Places). x.strokes) first.2,
      ap (λ (x : Places). x.marks) first.2,
      ap (λ (x : Stood). x.pen.number.0) first.0,
      ap (λ (x : Stood). x.walker.source.0) first.0,
    )
    few (omega (arith, d.ready.most), omega arith) d.small e

-- of a closed one: the last span, and the connectors of the join that led in
pub closing-few : (σ : Settings) (i : ℕ) (j : JoinBoundary) → (is_pointed j.cause ≡ true → are_pointed σ.corners ≡ true) → 1 + length (connector_moves i j) ≤ moves_a_segment σ.corners
unfolding connector_moves
closing-few σ i j tipped =
    either_tip i j (λ (ms : List Move). 1 + length (ms ++ connector_move i j ∷ []) ≤ moves_a_segment σ.corners) (λ e. omega (arith, two-moves σ.corners))
    (λ e. omega (arith, three-moves σ.corners (tipped e)))

pub around-lasts : (σ : Settings) (s : List PlineVertex) (v k room : ℕ) (pointed : Bool) (h h' : Sheet) {b b' : Contents} → Drawable v v room σ pointed s b → Entered σ h
    → trail h' b' ≡ advances true σ (routed v (v - 1) k s) (trail h b) → Lasts (length (closing_moves h'.walk h.walk.entry)) room h' b'
around-lasts σ s v k room pointed h h' d en e =
    let m = product_less (moves_a_segment σ.corners) v (omega (arith, d.ready.two)) in
    let c = closing-few σ h'.walk.source.0 h.walk.entry en.tipped in
    let z : v - 1 - 0 ≡ v - 1 = omega arith in
    let few : moves_a_segment σ.corners * (v - 1 - h.walk.leading) + length (closing_moves h'.walk h.walk.entry) ≤ room = rw (en.leading, z) (omega (arith, m, d.enough, c)) in
    lasts_after true σ s v (v - 1) k _ room h h' d.ready (en.strokes, en.marks, en.number, en.source) few
    (omega (arith, d.ready.most), omega (arith, c, moves-few σ.corners)) d.small e

pub ready_alike : {v room : ℕ} {s : List PlineVertex} {b b' : Contents} → Ready v room s b → Alike b b' → Ready v room s b'
ready_alike r a = record {
  long = r.long;
  two = r.two;
  most = r.most;
  vertices = omega (arith, r.vertices, a.vertices);
  flags = omega (arith, r.flags, a.flags);
  indexes = omega (arith, r.indexes, a.indexes);
  origins = omega (arith, r.origins, a.origins);
}

pub drawable_alike : {v n room : ℕ} {σ : Settings} {pointed : Bool} {s : List PlineVertex} {b b' : Contents} → Drawable v n room σ pointed s b → Alike b b' → Drawable v n room σ pointed s b'
drawable_alike d a = record { ready = ready_alike d.ready a; told = d.told; enough = d.enough; small = d.small }

module _ (σ : Settings) (s : List PlineVertex) (v room : ℕ) (pointed : Bool) (old : Contents) (sheet : Sheet) {b : Contents} where
  -- ---- closed
  module _ (d : Drawable v v room σ pointed s old) (h : trail sheet b ≡ walked true σ (routed v 2 0 s) (vertex_of s (v - 1)) 2 old) where
    abbrev first : Stood
    first = led_in σ (vertex_of s 0) (vertex_of s 1) (rest s)

    closed-first : trail sheet b ≡ record { stood = first; laid = laid no_places old }
    unfolding stores
    closed-first = h ∙ rw (lead_route s v d.ready.long d.ready.two, ← last-is s v d.ready.long d.ready.two, advances-drawn, closed-led, closed-undrawn)

    pub closed-entered : Fit sheet.walk → Entered σ sheet
    unfolding led_in closing_join join_at
    closed-entered f = record {
      tipped = λ (t : is_pointed sheet.walk.entry.cause ≡ true). tip-mode _ _ _ σ (ap (λ (r : Trail). is_pointed r.stood.walker.entry.cause) (sym closed-first) ∙ t);
      fit = f;
      leading = ap (λ (r : Trail). r.stood.leading) closed-first;
      source = ap (λ (r : Trail). r.stood.walker.source.0) closed-first;
      number = ap (λ (r : Trail). r.stood.pen.number.0) closed-first;
      strokes = ap (λ (r : Trail). r.laid.places.strokes) closed-first;
      marks = ap (λ (r : Trail). r.laid.places.marks) closed-first;
    }

    closed-few : length (moves true σ s) ≤ room
    closed-few = omega (arith, few true σ s, rw (others s v d.ready.long d.ready.two) at (closed-most σ (vertex_of s 0) (vertex_of s 1) (rest s)), d.enough)

    -- once around, with the closing moves
    abbrev around : List PlineVertex
    around = rest s ++ vertex_of s 0 ∷ []

    closed-laid :
        let k = closing_join σ (vertex_of s 0) (vertex_of s 1) (rest s) in
        let w = goes true σ around first in
        stores (strokes_by 0 w.pen (span_to w.walker k.current_end k.current_param ∷ connector_moves w.walker.source.0 k) σ.eps)
        (stores (drawn_on true σ around first) (laid no_places old)) ≡ drawn_over (start true σ s) (moves true σ s) old
    closed-laid =
        let n = closed-few in
        sym (stores-append (drawn_on true σ around first) _ (laid no_places old)) ∙ rw (closed-drawn σ (vertex_of s 0) (vertex_of s 1) (rest s))
        (stores-drawn (start true σ s) (moves true σ s) old (omega (arith, d.ready.vertices)) (omega (arith, d.ready.flags)) (omega (arith, d.ready.indexes)) (omega (arith, d.ready.origins)))

    closed-drawing : drawn_closed (start true σ s) (moves true σ s) ≡ drawing_of true σ s
    unfolding drawing_of lone_collapsed walk_drawing when◌give◌else◌
    closed-drawing = ap (drawing_of true σ) (sym (first_two s v d.ready.long d.ready.two))

    closed-entry : sheet.walk.entry ≡ closing_join σ (vertex_of s 0) (vertex_of s 1) (rest s)
    unfolding led_in
    closed-entry = ap (λ (r : Trail). r.stood.walker.entry) closed-first

    closed-closes : closes room (closing_join σ (vertex_of s 0) (vertex_of s 1) (rest s)) σ.eps
        (record { stood = goes true σ around first; laid = stores (drawn_on true σ around first) (laid no_places old) }) ≡ built_of room (drawing_of true σ s) old
    unfolding closes
    closed-closes =
        ap (λ (l : Laid). finishes room (record { vertices = l.places.strokes; indexes = l.places.marks; closed = not (eqb l.places.strokes 0) }) l) closed-laid
        ∙ closed-finish room (start true σ s) (moves true σ s) old (never_one σ (vertex_of s 0) (vertex_of s 1) (rest s)) closed-few
        ∙ rw closed-drawing

    pub closed-built : closes room sheet.walk.entry σ.eps (advances true σ (routed v (v - 1) (next_of v 1) s) (trail sheet b)) ≡ built_of room (drawing_of true σ s) old
    closed-built =
        let k = closing_join σ (vertex_of s 0) (vertex_of s 1) (rest s) in
        let led : Trail = record { stood = first; laid = laid no_places old } in
        ap (λ (j : JoinBoundary). closes room j σ.eps (advances true σ (routed v (v - 1) (next_of v 1) s) (trail sheet b))) closed-entry
        ∙ ap (λ (r : Trail). closes room k σ.eps (advances true σ (routed v (v - 1) (next_of v 1) s) r)) closed-first
        ∙ ap (λ (vs : List PlineVertex). closes room k σ.eps (advances true σ vs led)) (around_route s v d.ready.long d.ready.two)
        ∙ ap (closes room k σ.eps) (advances-drawn true σ around led)
        ∙ closed-closes

  -- ---- open
  module _ (d : Drawable v (v - 1) room σ pointed s old) (h : trail sheet b ≡ walked false σ (routed v (v - 1) 1 s) (vertex_of s 0) 1 old) where
    open_gone : trail sheet b ≡ walked false σ (vertex_of s 1 ∷ rest s) (vertex_of s 0) 1 old
    open_gone = h ∙ rw (open_route s v d.ready.long d.ready.two)

    open_few : length (moves false σ s) + 1 ≤ room
    open_few =
        let o = others s v d.ready.long d.ready.two in
        let e : length (rest s) ≡ v - 1 - 1 = omega (arith, o) in
        let m = product_less (moves_a_segment σ.corners) (v - 1) (omega (arith, d.ready.two)) in
        omega (arith, few false σ s, rw e at (open_most σ (vertex_of s 0) (vertex_of s 1) (rest s)), m, d.enough, two-moves σ.corners)

    -- the walk with its last span, which is not a lone collapsed arc
    open_walked : let w = goes false σ (vertex_of s 1 ∷ rest s) (standing_at (vertex_of s 0) 1) in let last = step_of w.pen (last_span w.walker) σ.eps in
        finishes_open room last.pen (stores (drawn_by 0 last) (stores (drawn_on false σ (vertex_of s 1 ∷ rest s) (standing_at (vertex_of s 0) 1)) (laid no_places old)))
        ≡ built_of room (drawn_open (start false σ s) (moves false σ s)) old
    open_walked =
        let n = open_few in
        let w = rw open_led at (open_drawn σ (vertex_of s 0) (vertex_of s 1) (rest s)) in
        let all = stores-drawn (start false σ s) (moves false σ s) old (omega (arith, d.ready.vertices)) (omega (arith, d.ready.flags)) (omega (arith, d.ready.indexes)) (omega (arith, d.ready.origins)) in
        rw (← stores-append (drawn_on false σ (vertex_of s 1 ∷ rest s) (standing_at (vertex_of s 0) 1)), w.0, w.1, all) (open_finish room _ _ old n d.ready.vertices)

    open_ends : lasts room (eqb (length (rest s) + 2) 2) σ.eps (walked false σ (vertex_of s 1 ∷ rest s) (vertex_of s 0) 1 old)
        ≡ built_of room (drawing_of false σ (vertex_of s 0 ∷ vertex_of s 1 ∷ rest s)) old
    unfolding lasts drawing_of walk_drawing when◌give◌else◌
    open_ends = by (lone_collapsed false σ (vertex_of s 0 ∷ vertex_of s 1 ∷ rest s)) refl
      where
        by : (t : Bool) → lone_collapsed false σ (vertex_of s 0 ∷ vertex_of s 1 ∷ rest s) ≡ t
            → lasts room (eqb (length (rest s) + 2) 2) σ.eps (walked false σ (vertex_of s 1 ∷ rest s) (vertex_of s 0) 1 old)
            ≡ built_of room (drawing_of false σ (vertex_of s 0 ∷ vertex_of s 1 ∷ rest s)) old
        by true l = rw (advances-drawn, lone_is, l, lone-none σ (vertex_of s 0) (vertex_of s 1) (rest s) (laid no_places old) l) (built-nothing room old)
        by false l = rw (advances-drawn, lone_is, l) open_walked

    pub open_built : lasts room (eqb v 2) σ.eps (trail sheet b) ≡ built_of room (drawing_of false σ s) old
    open_built =
        ap (lasts room (eqb v 2) σ.eps) open_gone
        ∙ ap (λ n. lasts room (eqb n 2) σ.eps (walked false σ (vertex_of s 1 ∷ rest s) (vertex_of s 0) 1 old)) (sym (others s v d.ready.long d.ready.two))
        ∙ open_ends
        ∙ ap (λ (vs : List PlineVertex). built_of room (drawing_of false σ vs) old) (sym (first_two s v d.ready.long d.ready.two))

-- ---- the last moves as the code stores them
pub lasts-room : {t room : ℕ} {h : Sheet} {b : Contents} → Lasts t room h b → Rooms t (laid h.places b)
lasts-room w = record {
  vertices = omega (arith, w.strokes, w.vertices);
  flags = omega (arith, w.strokes, w.flags);
  indexes = omega (arith, w.marks, w.indexes);
  origins = omega (arith, w.strokes, w.origins);
}

-- there is room for them, and for k vertices in all
pub last_within : (k t room : ℕ) (h : Sheet) (p : Places) (ss : List Stroke) {b b' : Contents} → Lasts t room h b → laid p b' ≡ stores ss (laid h.places b)
    → length ss ≤ t → k + length ss ≤ p.strokes + t → Within room k p.strokes p.marks b'
last_within k t room h p ss {b} w e n m =
    let alike = laid_alike h.places p ss e in
    let c = stores-counted ss (laid h.places b) in
    let x = ap (λ (l : Laid). l.places.strokes) e in
    let y = ap (λ (l : Laid). l.places.marks) e in
    record {
      small = w.small;
      from-vertex = omega (arith, w.strokes);
      from-flag = omega (arith, w.strokes);
      from-index = omega (arith, w.marks);
      vertices = omega (arith, w.vertices, alike.vertices);
      flags = omega (arith, w.flags, alike.flags);
      indexes = omega (arith, w.indexes, alike.indexes);
      origins = omega (arith, w.origins, alike.origins);
    }

-- the closing moves as the code stores them: they leave q
module _ (room : ℕ) (ε : Float) (h : Sheet) (k : JoinBoundary) (q : Places) {b b' : Contents} (w : Lasts (length (closing_moves h.walk k)) room h b)
    (all : laid q b' ≡ stores (strokes_by 0 h.walk.pen (closing_moves h.walk k) ε) (laid h.places b)) where
  pub closing-within : Within room q.strokes q.strokes q.marks b'
  closing-within =
      let few = strokes-few 0 h.walk.pen (closing_moves h.walk k) ε in
      last_within q.strokes _ room h q (strokes_by 0 h.walk.pen (closing_moves h.walk k) ε) w all few (omega (arith, few))

  pub closing-done : finishes room (record { vertices = q.strokes; indexes = q.marks; closed = not (eqb q.strokes 0) }) (laid q b') ≡ closes room k ε (trail h b)
  unfolding closes
  closing-done = ap (λ (l : Laid). finishes room (record { vertices = l.places.strokes; indexes = l.places.marks; closed = not (eqb l.places.strokes 0) }) l) all
