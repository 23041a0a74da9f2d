-- The turns of a walk, stored: what one of them adds, what the code's turn leaves, and what holds all along the loop over them (`Walking`). Assumes nothing.
use mathlib.Core.Path.{◌≡◌, refl, sym, ap, ◌∙◌, subst}
use mathlib.Core.List.{List, [], ◌∷◌}
use mathlib.Core.Bool.{Bool, true, false, false≢true}
use Prim.Native.Nat.{ℕ, zero, suc, ◌+◌, ◌*◌, ◌-◌, ◌<◌, ◌≤◌}
use native.Mathlib.Omega.{arith}
use lib.ListN.{length, length-append}
use lib.Ieee.{Float}
use Rattle.floats.specs.Binary64 as B
use Rattle.floats.specs.Choice.{when◌give◌else◌}
use Rattle.angles.specs.Angle.{bulge_of}
use Rattle.segments.specs.declared.PlineVertex.{PlineVertex}
use Rattle.segments.specs.declared.Settings.{Settings}
use Rattle.segments.specs.Modes.{are_pointed}
use Rattle.segments.specs.Vertex.{pos_of}
use Rattle.segments.specs.Segment.{offset_seg}
use Rattle.segments.specs.InnerSteps.{chord_of}
use Rattle.joins.specs.Corner.{is_pointed}
use Rattle.joins.proofs.Corner.{ruled-tip-mode}
use Rattle.source.specs.InnerSteps.{vertex_of, next_of}
use Rattle.moves.specs.declared.Pen.{Pen}
use Rattle.moves.specs.declared.Move.{Move}
use Rattle.moves.specs.declared.Stroke.{Stroke}
use Rattle.moves.specs.Made.{segment_of, span_move}
use Rattle.moves.specs.InnerSteps.{pen_after, step_of, tip_first}
use Rattle.walk.specs.declared.Walk.{Walk}
use Rattle.walk.specs.declared.Turned.{Turned}
use Rattle.walk.specs.InnerSteps.{Standing, stands, Stood, stood, Fit, standing_at, entering, after_turn, Turn, turn_to, turn_shown, after_span, made_by, strokes_by, pen_by, advance}
use Rattle.walk.specs.Walk.{moves_a_segment}
use Rattle.walk.proofs.Turning.{led-undrawn}
use Rattle.walk.proofs.Lengths.{moves-few, two-moves, connectors-few}
use Rattle.sheet.specs.declared.Places.{Places}
use Rattle.sheet.specs.declared.Later.{Later}
use Rattle.sheet.specs.declared.Sheet.{Sheet}
use Rattle.sheet.specs.InnerSteps.{Contents, contents, fitting, Held, no_places, reached, Laid, laid, stores, bulged_at, reached_later, bulged, later_of, Trail, trail, trail_later, advanced, advances, routed, Coded, Rooms, Alike, Turns, Ready, Drawable, Entered}
use Rattle.sheet.proofs.Stored.{Counted, stores-counted, alike_trans, alike_same, stores_alike}
use Rattle.sheet.proofs.Holding.{length-bulging}
use Rattle.sheet.proofs.Products.{product_one, product_less, product_most, product_turns}
use Rattle.sheet.proofs.Storing.{strokes-few, numbers-few}
use Rattle.sheet.proofs.Bulges.{later, later-placed}

-- ---- what a turn adds

after-turn : (closed : Bool) (pen : Pen) (n : ℕ) (w : Standing) → let x = after_turn closed pen n w in
    (x.leading ≡ n - 1) × (x.walker.source.0 ≤ w.source.0) × (x.pen.number.0 ≤ pen.number.0) × (x.walker.vertex ≡ w.vertex)
unfolding after_turn entering
after-turn closed pen zero w = (omega arith, omega arith, omega arith, refl)
after-turn closed pen (suc zero) w = (omega arith, omega arith, omega arith, refl)
after-turn closed pen (suc (suc n)) w = (omega arith, omega arith, omega arith, refl)

-- so many strokes at most of a row of moves, and none where it leads in
row-few : (n m : ℕ) (pen : Pen) (ms : List Move) (e : Float) → length ms ≤ m → length (strokes_by n pen ms e) ≤ m * (1 - n)
row-few zero m pen ms e h = let a : 1 - 0 ≡ 1 = omega arith in rw a (omega (arith, strokes-few 0 pen ms e))
row-few (suc n) m pen ms e h = rw (led-undrawn n pen ms e) (omega arith)

-- one turn: m strokes at most, or none where it leads in
pub record Moved (m : ℕ) (c : PlineVertex) (w w' : Stood) (strokes : ℕ) : Type 0 where
  pub leading : w'.leading ≡ w.leading - 1
  pub source : w'.walker.source.0 ≤ w.walker.source.0 + 1
  pub number : w'.pen.number.0 ≤ w.pen.number.0 + m
  pub vertex : w'.walker.vertex ≡ c
  pub few : strokes ≤ m * (1 - w.leading)

pub advance-moved : (closed : Bool) (σ : Settings) (c : PlineVertex) (w : Stood) → let a = advance closed σ c w in Moved (moves_a_segment σ.corners) c w a.stood (length a.strokes)
unfolding advance turn_to
advance-moved closed σ c w =
    let t = turn_to w.walker c σ in
    let ms = t.span ∷ t.connectors in
    let k = connectors-few σ w.walker.source.0 w.walker.current (offset_seg w.walker.vertex c σ.offset) (pos_of w.walker.vertex) in
    let x = after-turn closed (pen_by w.pen ms σ.eps) w.leading t.walker in
    let n = numbers-few w.pen ms σ.eps in
    record { leading = x.0; source = omega (arith, x.1); number = omega (arith, x.2, n, k); vertex = x.3; few = row-few w.leading _ w.pen ms σ.eps (omega (arith, k)) }

-- all turns
pub record Gone (m n : ℕ) (r r' : Trail) : Type 0 where
  pub source : r'.stood.walker.source.0 ≤ r.stood.walker.source.0 + n
  pub number : r'.stood.pen.number.0 ≤ r.stood.pen.number.0 + m * n
  pub strokes : r'.laid.places.strokes ≤ r.laid.places.strokes + m * (n - r.stood.leading)
  pub marks : r'.laid.places.marks ≤ r.laid.places.marks + m * (n - r.stood.leading)

pub advances_gone : (closed : Bool) (σ : Settings) (vs : List PlineVertex) (r : Trail) → Gone (moves_a_segment σ.corners) (length vs) r (advances closed σ vs r)
unfolding advances advanced
advances_gone closed σ [] r = record { source = omega arith; number = omega arith; strokes = omega arith; marks = omega arith }
advances_gone closed σ (c ∷ vs) r =
    let m = advance-moved closed σ c r.stood in
    let k = stores-counted (advance closed σ c r.stood).strokes r.laid in
    let g = advances_gone closed σ vs (advanced closed σ c r) in
    let strokes = rw m.leading at g.strokes in
    let marks = rw m.leading at g.marks in
    let p = product_turns (moves_a_segment σ.corners) (length vs) r.stood.leading in
    record {
      source = omega (arith, g.source, m.source);
      number = omega (arith, g.number, m.number);
      strokes = omega (arith, strokes, k.strokes, m.few, p);
      marks = omega (arith, marks, k.marks, m.few, p);
    }

-- ---- buffers keep their lengths

pub laid_alike : (p q : Places) (ss : List Stroke) {b b' : Contents} → laid q b' ≡ stores ss (laid p b) → Alike b b'
laid_alike p q ss {b} e = subst (Alike b) (ap (λ (l : Laid). l.buffers) (sym e)) (stores_alike ss (laid p b))

bulged_alike : (r : Later) (l : Laid) → Alike l.buffers (bulged r l).buffers
unfolding bulged
bulged_alike r l = record { vertices = by r.due; flags = refl; indexes = refl; origins = refl }
  where
    by : (t : Bool) → length (bulged_at t r.place (bulge_of r.sweep) l.buffers.vertices).made ≡ length l.buffers.vertices.made
    by true = unfold bulged_at when◌give◌else◌ in length-bulging r.place (bulge_of r.sweep) l.buffers.vertices.made
    by false = unfold bulged_at when◌give◌else◌ in refl

later_alike : (r : Later) (p q : Places) {b b' : Contents} → laid q b' ≡ bulged r (laid p b) → Alike b b'
later_alike r p q {b} e = subst (Alike b) (ap (λ (l : Laid). l.buffers) (sym e)) (bulged_alike r (laid p b))

advances_alike : (closed : Bool) (σ : Settings) (vs : List PlineVertex) (r : Trail) → Alike r.laid.buffers (advances closed σ vs r).laid.buffers
unfolding advances advanced
advances_alike closed σ [] r = alike_same
advances_alike closed σ (c ∷ vs) r = alike_trans (stores_alike _ r.laid) (advances_alike closed σ vs (advanced closed σ c r))

pub trail_alike : (closed : Bool) (σ : Settings) (vs : List PlineVertex) (h h' : Sheet) {b b' : Contents} → trail h' b' ≡ advances closed σ vs (trail h b) → Alike b b'
trail_alike closed σ vs h h' {b} e = subst (Alike b) (ap (λ (r : Trail). r.laid.buffers) (sym e)) (advances_alike closed σ vs (trail h b))

-- ---- a turn of the code

-- a bulge that is left to be written is one of a stored vertex
abbrev pub Placed : Later → Places → Type 0
Placed r p = r.due ≡ true → r.place < p.strokes

-- from the walk w, its places p, the bulge r that is left to be written and the buffers b on to the vertex c, by `t`: r is written, and its own left in its place
pub record Round (closed : Bool) (σ : Settings) (c : PlineVertex) (w : Walk) (p : Places) (r : Later) (b : Contents) (t : Turned)
    (w' : Walk) (p' : Places) (r' : Later) (b' : Contents) : Type 0 where
  pub here : Places
  pub between : Contents
  pub pen : Pen
  pub wrote : laid here between ≡ bulged r (laid p b)
  pub turned : turn_shown t ≡ turn_to (stands w) c σ
  pub straight : t.span.bulge ≡ B.zero
  pub same-pen : t.walk.pen ≡ w.pen
  pub same-leading : t.walk.leading ≡ w.leading
  pub drew : laid p' b' ≡ stores (strokes_by t.walk.leading t.walk.pen (made_by t) σ.eps) (laid here between)
  pub left : r' ≡ later_of here.strokes t σ.eps
  pub moved : pen ≡ pen_by t.walk.pen (made_by t) σ.eps
  pub after : stood w' ≡ after_turn closed pen t.walk.leading (stands t.walk)

-- what a turn leaves, by its moves
by : Bool → Float → ℕ → Pen → Turn → Laid → Trail
by closed ε n pen u l = record {
  stood = after_turn closed (pen_by pen (u.span ∷ u.connectors) ε) n u.walker;
  laid = stores (strokes_by n pen (u.span ∷ u.connectors) ε) l;
}

by-advanced : (closed : Bool) (σ : Settings) (c : PlineVertex) (r : Trail)
    → by closed σ.eps r.stood.leading r.stood.pen (turn_to r.stood.walker c σ) r.laid ≡ advanced closed σ c r
unfolding by advanced advance
by-advanced closed σ c r = refl

module _ {closed : Bool} {σ : Settings} {c : PlineVertex} {w : Walk} {p : Places} {r : Later} {b : Contents} {t : Turned} {w' : Walk} {p' : Places} {r' : Later} {b' : Contents}
    (x : Round closed σ c w p r b t w' p' r' b') where
  by_code : trail_later w' p' r' b' ≡ by closed σ.eps t.walk.leading t.walk.pen (turn_shown t) (laid x.here x.between)
  unfolding by pen_by step_of pen_after
  by_code =
      let l = later t σ.eps (laid x.here x.between) x.straight in
      rw (x.after, x.moved, x.left, x.drew) (rw l)

  round-advanced : trail_later w' p' r' b' ≡ advanced closed σ c (trail_later w p r b)
  round-advanced = by_code ∙ rw (x.turned, x.wrote, x.same-pen, x.same-leading) (by-advanced closed σ c (trail_later w p r b))

  round-moved : Moved (moves_a_segment σ.corners) c (stood w) (stood w') (length (advance closed σ c (stood w)).strokes)
  round-moved = rw (ap (λ (y : Trail). y.stood) round-advanced) (unfold advanced in advance-moved closed σ c (stood w))

  round-placed : Placed r' p'
  round-placed d =
      let l = laid x.here x.between in
      let e = ap (λ (y : Later). y.place) x.left in
      let n = ap (λ (y : Laid). y.places.strokes) x.drew in
      omega (arith, later-placed t σ.eps l (ap (λ (y : Later). y.due) (sym x.left) ∙ d))

  round-counted : Counted (length (advance closed σ c (stood w)).strokes) (reached p) (reached p')
  unfolding bulged advanced
  round-counted =
      let k = stores-counted (advance closed σ c (stood w)).strokes (bulged r (laid p b)) in
      let m = k.marks in
      let e = ap (λ (y : Trail). y.laid.places.marks) round-advanced in
      record { strokes = ap (λ (y : Trail). y.laid.places.strokes) round-advanced ∙ k.strokes; marks = omega arith }

  -- the buffers keep their lengths
  round_alike : Alike b b'
  round_alike = alike_trans (later_alike r p x.here x.wrote) (laid_alike x.here p' _ x.drew)

  -- room for the turns after it
  round-turns : (n : ℕ) → Fit w' → Turns (moves_a_segment σ.corners) (suc n) w p b → Turns (moves_a_segment σ.corners) n w' p' b'
  round-turns n f h =
      let a = round_alike in
      let m = round-moved in
      let k = round-counted in
      let q = h.rooms in
      let few = m.few in
      let p = product_turns (moves_a_segment σ.corners) n w.leading in
      record {
        fit = f;
        sources = omega (arith, h.sources);
        outputs = omega (arith, h.outputs, m.number);
        rooms = rw m.leading (record {
          vertices = omega (arith, q.vertices, p, few);
          flags = omega (arith, q.flags, p, few);
          indexes = omega (arith, q.indexes, p, few);
          origins = omega (arith, q.origins, p, few);
        });
      }

-- ---- the loop

-- the code writes what is left
pub wrote_later : (r : Later) (p q : Places) (b : Contents) {ns : Held} → ns ≡ bulged_at r.due r.place (bulge_of r.sweep) b.vertices
    → reached q ≡ reached_later r (reached p) → laid q (contents ns b.flags b.indexes b.origins b.loans) ≡ bulged r (laid p b)
unfolding bulged
wrote_later r p q b h k = rw (h, k)

-- with nothing left to be written
later-none : (w : Walk) (p : Places) (r : Later) (b : Contents) → r.due ≡ false → trail_later w p r b ≡ trail (record { walk = w; places = p }) b
unfolding bulged bulged_at when◌give◌else◌
later-none w p r b h = rw h

left_more : (closed : Bool) (σ : Settings) (s : List PlineVertex) (v n k : ℕ) (r : Trail)
    → advances closed σ (routed v n (next_of v k) s) (advanced closed σ (vertex_of s k) r) ≡ advances closed σ (routed v (suc n) k s) r
unfolding advances routed
left_more closed σ s v n k r = refl

-- Of n turns over a source s of v vertices, from the buffers b₀ on to the trail `end`, i are done, and the next is to place k. What the turns still to come leave is that end.
-- The chord to the next vertex is worked out.
pub record Walking (closed : Bool) (σ : Settings) (s : List PlineVertex) (v n : ℕ) (b₀ : Contents) (end : Trail) (i k : ℕ) (w : Walk) (p : Places) (r : Later) (b : Contents) (chord : Float) : Type 0 where
  pub within : i ≤ n
  pub below : k < v
  pub alike : Alike b₀ b
  pub left : advances closed σ (routed v (n - i) k s) (trail_later w p r b) ≡ end
  pub room : Turns (moves_a_segment σ.corners) (n - i) w p b
  pub placed : Placed r p
  pub ahead : chord ≡ chord_of w.vertex (vertex_of s k)

module _ {closed : Bool} {σ : Settings} {s : List PlineVertex} {v n : ℕ} where
  pub walking_none : {w : Walk} {p : Places} {r : Later} {b : Contents} {k : ℕ} {chord : Float} → r.due ≡ false → k < v → Turns (moves_a_segment σ.corners) n w p b → chord ≡ chord_of w.vertex (vertex_of s k)
      → Walking closed σ s v n b (advances closed σ (routed v n k s) (trail (record { walk = w; places = p }) b)) 0 k w p r b chord
  walking_none {w} {p} {r} {b} {k} none h t e = let z : n - 0 ≡ n = omega arith in record {
    within = omega arith;
    below = h;
    alike = alike_same;
    left = rw (z, later-none w p r b none);
    room = rw z t;
    placed = λ (d : r.due ≡ true). absurd (false≢true (sym none ∙ d));
    ahead = e;
  }

  module _ {b₀ : Contents} {end : Trail} {i k : ℕ} {w : Walk} {p : Places} {r : Later} {b : Contents} {chord : Float}
      (on : Walking closed σ s v n b₀ end i k w p r b chord) where
    pub walking_turn : {c : PlineVertex} (t : Turned) {w' : Walk} {p' : Places} {r' : Later} {b' : Contents} {k' : ℕ} {chord' : Float}
        → i < n → Round closed σ c w p r b t w' p' r' b' → c ≡ vertex_of s k → Fit w'
        → (k' ≡ next_of v k) × (k' < v) → chord' ≡ chord_of c (vertex_of s k')
        → Walking closed σ s v n b₀ end (i + 1) k' w' p' r' b' chord'
    walking_turn {c} t {w'} {p'} {r'} {b'} {k'} lt x hc f hk hd =
        let e : n - i ≡ suc (n - (i + 1)) = omega arith in
        record {
          within = omega arith;
          below = hk.1;
          alike = alike_trans on.alike (round_alike x);
          left =
              rw (round-advanced x, hk.0, hc)
              (left_more closed σ s v (n - (i + 1)) k (trail_later w p r b) ∙ ap (λ j. advances closed σ (routed v j k s) (trail_later w p r b)) (sym e) ∙ on.left);
          room = round-turns x (n - (i + 1)) f (subst (λ j. Turns (moves_a_segment σ.corners) j w p b) e on.room);
          placed = round-placed x;
          ahead = hd ∙ ap (λ (y : PlineVertex). chord_of y (vertex_of s k')) (sym (round-moved x).vertex);
        }

    pub walking_done : n ≤ i → trail_later w p r b ≡ end
    unfolding advances routed
    walking_done h = let z : n - i ≡ 0 = omega arith in subst (λ j. advances closed σ (routed v j k s) (trail_later w p r b) ≡ end) z on.left

    -- room for the bulge that is left, and for a turn's strokes
    pub room-later : r.due ≡ true → r.place < fitting b
    room-later d = let k = on.placed d in omega (arith, on.room.rooms.vertices)

    -- its moves are those of the turn by the rules
    turn-made : (c : PlineVertex) (t : Turned) → turn_shown t ≡ turn_to (stands w) c σ → length (after_span t) + 1 ≤ moves_a_segment σ.corners
    unfolding turn_to
    turn-made c t h =
        rw (ap (λ (u : Turn). u.connectors) h) (connectors-few σ w.source.0 (stands w).current (offset_seg w.vertex c σ.offset) (pos_of w.vertex))

    pub room-turn : (c : PlineVertex) (t : Turned) → turn_shown t ≡ turn_to (stands w) c σ → (p₁ : Places) {b₁ : Contents} → i < n → laid p₁ b₁ ≡ bulged r (laid p b) → w.leading ≡ 0
        → Rooms (2 + length (tip_first t.join t.connector)) (laid p₁ b₁)
    unfolding bulged
    room-turn c t made p₁ lt h z =
        let a = later_alike r p p₁ h in
        let q = on.room.rooms in
        let l = length-append (tip_first t.join t.connector) (t.connector ∷ []) in
        let k = turn-made c t made in
        let m = product_one (moves_a_segment σ.corners) (n - i - w.leading) (omega (arith, lt, z)) in
        let strokes = ap (λ (x : Laid). x.places.strokes) h in
        let marks = ap (λ (x : Laid). x.places.marks) h in
        record {
          vertices = omega (arith, q.vertices, a.vertices, m, k, l);
          flags = omega (arith, q.flags, a.flags, m, k, l);
          indexes = omega (arith, q.indexes, a.indexes, m, k, l);
          origins = omega (arith, q.origins, a.origins, m, k, l);
        }

    -- so many numbers more fit
    pub number-turn : i < n → w.pen.number.0 + 3 < 0x1_0000_0000
    number-turn lt = omega (arith, on.room.outputs, product_one (moves_a_segment σ.corners) (n - i) (omega (arith, lt)), two-moves σ.corners)

    -- the origins of a turn's moves fit
    pub coded_turn : (c : PlineVertex) (t : Turned) → i < n → turn_shown t ≡ turn_to (stands w) c σ → Coded t.span.origin
    unfolding turn_to span_move
    coded_turn c t lt h = omega (arith, on.room.sources, ap (λ (u : Turn). segment_of u.span.origin) h)

    -- it has a tip in the pointed mode alone
    pub tipped-turn : (c : PlineVertex) (t : Turned) → turn_shown t ≡ turn_to (stands w) c σ → is_pointed t.join.cause ≡ true → are_pointed σ.corners ≡ true
    unfolding turn_to
    tipped-turn c t h e =
        ruled-tip-mode (stands w).current (offset_seg w.vertex c σ.offset) (pos_of w.vertex) σ (ap (λ (u : Turn). is_pointed u.join.cause) (sym h) ∙ e)

    -- the walk can be joined on
    pub walking_fit : Fit w
    walking_fit = on.room.fit

-- there is room for n turns at the first vertex, where m of them lead in
pub turns-first : (n m room : ℕ) (a : PlineVertex) {v : ℕ} {h : Sheet} {s : List PlineVertex} {b : Contents} → Ready v room s b
    → (stood h.walk ≡ standing_at a m) × Fit h.walk × (h.places ≡ no_places) → (moves : ℕ) → moves ≤ 3 → n ≤ v + 2 → moves * (n - m) ≤ room → Turns moves n h.walk h.places b
unfolding standing_at
turns-first n m room a {h = h} r e moves three l q =
    let most = product_most moves 3 n three in
    let source : h.walk.source.0 ≡ 0 = ap (λ (x : Stood). x.walker.source.0) e.0 in
    let number : h.walk.pen.number.0 ≡ 0 = ap (λ (x : Stood). x.pen.number.0) e.0 in
    let leading : h.walk.leading ≡ m = ap (λ (x : Stood). x.leading) e.0 in
    let strokes : h.places.strokes ≡ 0 = ap (λ (x : Places). x.strokes) e.2 in
    let marks : h.places.marks ≡ 0 = ap (λ (x : Places). x.marks) e.2 in
    record {
      fit = e.1;
      sources = omega (arith, r.most);
      outputs = omega (arith, r.most, most);
      rooms = rw leading (record { vertices = omega (arith, r.vertices, q); flags = omega (arith, r.flags, q); indexes = omega (arith, r.indexes, q); origins = omega (arith, r.origins, q) });
    }

-- and for those once around, of a walk that is led in
pub turns-around : {v room : ℕ} {σ : Settings} {pointed : Bool} {h : Sheet} {s : List PlineVertex} {b : Contents} → Drawable v v room σ pointed s b → Entered σ h
    → Turns (moves_a_segment σ.corners) (v - 1) h.walk h.places b
turns-around {v} {σ = σ} d e =
    let r = d.ready in
    let m = product_less (moves_a_segment σ.corners) v (omega (arith, r.two)) in
    let most = product_most (moves_a_segment σ.corners) 3 (v - 1) (moves-few σ.corners) in
    let q = d.enough in
    let z : v - 1 - 0 ≡ v - 1 = omega arith in
    record {
      fit = e.fit;
      sources = omega (arith, r.most, e.source);
      outputs = omega (arith, r.most, e.number, most);
      rooms = rw (e.leading, z) (record {
        vertices = omega (arith, r.vertices, e.strokes, m, q);
        flags = omega (arith, r.flags, e.strokes, m, q);
        indexes = omega (arith, r.indexes, e.marks, m, q);
        origins = omega (arith, r.origins, e.strokes, m, q);
      });
    }
