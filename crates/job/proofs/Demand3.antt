-- Demand 3, of every job that it speaks of: accepted, with a nonzero offset and two vertices or more, and no lone collapsed arc (`demand_3`). Assumes nothing.
use mathlib.Core.Path.{◌≡◌, refl, sym, ap, ◌∙◌, subst}
use mathlib.Core.List.{List, [], ◌∷◌, ◌++◌, Memᴰ}
use mathlib.Core.Bool.{Bool, true, false}
use Prim.Native.Nat.{◌≤◌, ◌<◌}
use native.Mathlib.Omega.{arith}
use lib.ListN.{length}
use Rattle.floats.specs.Choice.{when◌give◌else◌}
use Rattle.floats.specs.Size.{finite}
use Rattle.floats.proofs.Choice.{yes, no}
use Rattle.vectors.specs.Plane.{near}
use Rattle.vectors.specs.declared.Vector2.{Vector2}
use Rattle.segments.specs.declared.PlineVertex.{PlineVertex}
use Rattle.segments.specs.declared.Settings.{Settings}
use Rattle.segments.specs.declared.SourceSegment.{SourceSegment}
use Rattle.source.specs.Source.{vertices_in}
use Rattle.moves.specs.declared.Move.{Move}
use Rattle.moves.specs.declared.Origin.TheVariants.{Connector}
use Rattle.moves.specs.Drawing.{Drawing, nothing, move_end, kept, drawn_open, drawn_closed, all_finite, empty_result, result_of}
use Rattle.moves.specs.Sound.{Sound}
use Rattle.moves.proofs.Kept.{kept_mem}
use Rattle.moves.proofs.Choices.{one_choice}
use Rattle.moves.proofs.Closing.{closing-rule}
use Rattle.moves.proofs.Shapes.{open_none, closed-few, closed_some}
use Rattle.moves.proofs.Drawn.{open_sound, open_vertices, closed-sound, closed_never_one}
use Rattle.walk.specs.Walk.{walk_start, walk_moves, walk_drawing, lone_collapsed, drawing_of}
use Rattle.walk.proofs.Lengths.{drawing-fits}
use Rattle.walk.proofs.Connectors.{connectors_bound}
use Rattle.walk.proofs.Ends.{Closes, closed-ends}
use Rattle.walk.proofs.Unmet.{never_one}
use Rattle.job.specs.Verdict.{drawn}
use Rattle.job.specs.Job.{result_in, placed}
use Rattle.job.specs.Rows.{Job, outcome, places}
use Rattle.job.specs.Demand3.{Walks, close, OpenOutput, ClosedOutput, Against, Demand3}
use Rattle.job.proofs.Ways.{drawing}
use Rattle.job.proofs.Went.{Went, went}
use Rattle.job.proofs.Output.{open_mark, closed-count, at-least-two, closing-pair, open_bulge, closed-bulge, finite_number}

-- ---- of a walk, open or closed

module _ (σ : Settings) (a b : PlineVertex) (vs : List PlineVertex) where
  abbrev start : Bool → Vector2
  start closed = walk_start closed σ a b vs

  abbrev all : Bool → List Move
  all closed = walk_moves closed σ a b vs

  abbrev chosen : Bool → List Move
  chosen closed = kept σ.eps (start closed) (all closed)

  abbrev the_drawing : Bool → Drawing
  the_drawing closed = walk_drawing closed σ a b vs

  pub walk-sound : (closed : Bool) → Sound σ.eps (chosen closed) (the_drawing closed)
  unfolding walk_drawing when◌give◌else◌
  walk-sound true =
      let e = closed-ends σ a b vs in
      subst (λ (ms : List Move). Sound σ.eps (kept σ.eps (start true) ms) (drawn_closed (start true) (kept σ.eps (start true) ms))) (sym e.ends.last)
      (closed-sound σ.eps (start true) e.ends.before e.ends.closing e.ends.home e.some)
  walk-sound false = open_sound σ.eps (start false) (all false)

  none : (closed : Bool) → length (chosen closed) ≡ 0 → result_of (the_drawing closed) ≡ empty_result
  unfolding walk_drawing when◌give◌else◌
  none true h = ap result_of (closed-few (start true) (chosen true) (omega arith))
  none false h = ap result_of (open_none (start false) (chosen false) h)

  mark : (closed : Bool) → 0 < length (chosen closed) → (the_drawing closed).closed ≡ closed
  unfolding walk_drawing when◌give◌else◌
  mark true h = ap (λ (d : Drawing). d.closed) (closed_some (start true) (chosen true) (at-least-two (length (chosen true)) h (never_one σ a b vs)))
  mark false h = open_mark (start false) (chosen false)

  bulge : (closed : Bool) (m : Move) → all_finite (the_drawing closed).vertices ≡ true → Memᴰ m (chosen closed) → finite m.bulge ≡ true
  unfolding walk_drawing when◌give◌else◌
  bulge true m h i = closed-bulge (start true) (chosen true) m (never_one σ a b vs) h i
  bulge false m h i = open_bulge (start false) (chosen false) m h i

  against : (closed : Bool) (m : Move) (i : SourceSegment) → all_finite (the_drawing closed).vertices ≡ true → Memᴰ m (chosen closed) → m.origin ≡ Connector i → Against σ.offset m.bulge
  against closed m i h k o =
      let c = connectors_bound σ closed a b vs m i (kept_mem move_end (λ p q. near p q σ.eps) (start closed) (all closed) k) o in
      record { small = c.small (finite_number m.bulge (bulge closed m h k)); not_both_above = c.not_both_above; not_both_below = c.not_both_below }

-- ---- of a job

two-vertices : (vs : List PlineVertex) → 2 ≤ length vs → (a : PlineVertex) × (b : PlineVertex) × (others : List PlineVertex) × (vs ≡ a ∷ b ∷ others)
two-vertices [] h = absurd (omega arith)
two-vertices (a ∷ []) h = absurd (omega arith)
two-vertices (a ∷ b ∷ vs) h = (a, b, vs, refl)

module _ (j : Job) (a b : PlineVertex) (vs : List PlineVertex) where
  abbrev p : Vector2
  p = start j.settings a b vs j.closed

  abbrev ms : List Move
  ms = all j.settings a b vs j.closed

  abbrev ks : List Move
  ks = chosen j.settings a b vs j.closed

  abbrev d : Drawing
  d = the_drawing j.settings a b vs j.closed

  the_walk : vertices_in j.source ≡ a ∷ b ∷ vs → lone_collapsed j.closed j.settings (vertices_in j.source) ≡ false → drawing j ≡ d
  unfolding drawing_of
  the_walk source lone = rw source (sym (no (lone_collapsed j.closed j.settings (a ∷ b ∷ vs)) nothing d (rw source at lone) refl))

  open_output : result_in (outcome j).answer ≡ result_of d → j.closed ≡ false → OpenOutput j p ks d
  unfolding walk_drawing
  open_output r e =
      let w : d ≡ drawn_open p ks = sym (no j.closed (drawn_closed p ks) (drawn_open p ks) e refl) in
      record { drawn = w; vertices = λ l. ap (λ r. r.vertices) r ∙ ap (λ (x : Drawing). length x.vertices) w ∙ open_vertices p ks l }

  closed-output : result_in (outcome j).answer ≡ result_of d → j.closed ≡ true → ClosedOutput j p ms ks d
  unfolding walk_drawing
  closed-output r e = record {
    before = before;
    closing = closing;
    last = last;
    home = home;
    drawn = w;
    earlier = kept j.settings.eps p before;
    choice = one_choice move_end (close j) p before;
    rule = w ∙ ap (drawn_closed p) all-kept ∙ sym (closing-rule j.settings.eps p before closing home);
    vertices = ap (λ r. r.vertices) r ∙ ap (λ (x : Drawing). length x.vertices) w ∙ closed-count p ks not-one;
    never_one = not-one;
    apart = λ k. rw (w, all-kept) (closing-pair j.settings.eps p before closing home c.some (sym all-kept ∙ k));
  }
    where
      c : Closes p ms
      c = subst (λ (t : Bool). Closes (walk_start t j.settings a b vs) (walk_moves t j.settings a b vs)) (sym e) (closed-ends j.settings a b vs)

      before : List Move
      before = c.ends.before

      closing : Move
      closing = c.ends.closing

      last : ms ≡ before ++ closing ∷ []
      last = c.ends.last

      home : closing.end ≡ p
      home = c.ends.home

      all-kept : ks ≡ kept j.settings.eps p (before ++ closing ∷ [])
      all-kept = ap (kept j.settings.eps p) last

      w : d ≡ drawn_closed p ks
      w = sym (yes j.closed (drawn_closed p ks) (drawn_open p ks) e refl)

      not-one : length ks ≡ 1 → ⊥
      not-one n = closed_never_one j.settings.eps p before closing home c.some (ap length (sym all-kept) ∙ n)

  claim : vertices_in j.source ≡ a ∷ b ∷ vs → Walks j → Demand3 j
  claim source ok = record {
    start = p;
    moves = ms;
    walk = record { a = a; b = b; others = vs; source = source; start = refl; moves = refl };
    ks = ks;
    choice = one_choice move_end (close j) p ms;
    drawing = d;
    answer = ap (λ o. o.answer) is;
    buffers = ap (λ o. o.buffers) is;
    room = rw (← same) (drawing-fits j.closed j.settings (vertices_in j.source)).vertices;
    opened = open_output counts;
    closed = closed-output counts;
    none = λ h. counts ∙ none j.settings a b vs j.closed h;
    mark = λ h. ap (λ r. r.closed) counts ∙ mark j.settings a b vs j.closed h;
    indexes = ap (λ r. r.indexes) counts ∙ fine.indexes;
    sound = fine;
    connectors = λ m i k o. against j.settings a b vs j.closed m i (ap (λ (x : Drawing). all_finite x.vertices) (sym same) ∙ way.finite) k o;
  }
    where
      way : Went j
      way = went j ok.accepted ok.nonzero ok.two

      same : drawing j ≡ d
      same = the_walk source ok.not-lone

      is : outcome j ≡ placed (places j) (drawn d) j.buffers
      is = way.is ∙ ap (λ (x : Drawing). placed (places j) (drawn x) j.buffers) same

      counts : result_in (outcome j).answer ≡ result_of d
      counts = ap (λ o. result_in o.answer) is

      fine : Sound j.settings.eps ks d
      fine = walk-sound j.settings a b vs j.closed

-- ---- demand 3

pub demand_3 : (j : Job) → Walks j → Demand3 j
demand_3 j ok =
    let w = two-vertices (vertices_in j.source) ok.two in
    claim j w.0 w.1 w.2 w.3 ok
