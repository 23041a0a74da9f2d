-- After a done job a source segment's part is all that it became (`parts`). Assumes nothing.
use mathlib.Core.Path.{◌≡◌, refl, sym, ap, ◌∙◌, subst}
use mathlib.Core.Logic.{◌↔◌}
use mathlib.Core.List.Memᴰ
use mathlib.Core.List.{List, [], ◌∷◌, map, append_assoc, Memᴰ}
use mathlib.Core.Bool.{Bool, true, false}
use Prim.Native.Nat.{ℕ, ◌≤◌, ◌<◌}
use native.Mathlib.Omega.{arith}
use lib.Dec.{T}
use lib.ListN.{length, take, length-replicate}
use lib.Ieee.{eq}
use lib.Seq.{take_at, take_all}
use Rattle.floats.specs.Binary64.{zero}
use Rattle.floats.specs.Choice.{when◌give◌else◌}
use Rattle.vectors.specs.declared.Vector2.{Vector2}
use Rattle.segments.specs.declared.Settings.{Settings}
use Rattle.segments.specs.declared.PlineVertex.{PlineVertex}
use Rattle.source.proofs.Segments.{segments-closed, segments_open, segments-none, segments-most}
use Rattle.moves.specs.declared.Move.{Move}
use Rattle.moves.specs.declared.Origin.{Origin}
use Rattle.moves.specs.Made.{segment_of}
use Rattle.moves.specs.Drawing.{Drawing, nothing, drawn_open, drawn_closed}
use Rattle.moves.specs.Choice.{NeverFalling}
use Rattle.moves.specs.Choice.NeverFalling.{none}
use Rattle.moves.specs.Sound.{segment_count}
use Rattle.moves.proofs.Lists.{length-corners, length-flags_of, length-origins_of}
use Rattle.moves.proofs.Shapes.{length_ray}
use Rattle.moves.proofs.Rows.{in_front}
use Rattle.walk.specs.Walk.{walk_drawing, drawing_of, copied}
use Rattle.walk.specs.Walk.{moves_a_segment}
use Rattle.walk.proofs.Lengths.{moves-few, two-moves, open_drawing, closed-drawing, drawing-fits}
use Rattle.sheet.proofs.Products.{product_most}
use Rattle.walk.proofs.Origins.{drawing_never_falls, drawing-below, length_spans, spans_climb, spans_below}
use Rattle.sheet.specs.Buffers.{padded, no_origin, shown}
use Rattle.job.specs.Verdict.{drawn}
use Rattle.job.specs.Job.{placed}
use Rattle.refusals.specs.Table.{number}
use Rattle.job.specs.Rows.{Job, outcome, count, places, Numbers, Roomy}
use Rattle.job.proofs.Ways.{Way, ragged, many, bad, few, tight, copy, repeated, endless, whole, points, drawing, leads_to, way, ends}
use Rattle.part.specs.Part.{part_at, part_of}
use Rattle.part.specs.Claim.{sources, In, Claim}
use Rattle.part.proofs.Found.{none_such, found, part-within}
use Rattle.part.proofs.Row.{exactly, copy-part}

-- ---- each segment of a drawing has a flag and an origin

record Even (d : Drawing) : Type 0 where
  flags : length d.flags ≡ segment_count d
  origins : length d.origins ≡ segment_count d

even-nothing : Even nothing
unfolding segment_count when◌give◌else◌
even-nothing = record { flags = refl; origins = refl }

even_open : (p : Vector2) (ks : List Move) → Even (drawn_open p ks)
unfolding drawn_open segment_count when◌give◌else◌
even_open p [] = record { flags = refl; origins = refl }
even_open p (k ∷ ks) =
    let n = length_ray p (k ∷ ks) in
    record { flags = omega (arith, length-flags_of (k ∷ ks)); origins = omega (arith, length-origins_of (k ∷ ks)) }

even-closed : (p : Vector2) (ks : List Move) → Even (drawn_closed p ks)
unfolding drawn_closed segment_count when◌give◌else◌
even-closed p [] = record { flags = refl; origins = refl }
even-closed p (k ∷ []) = record { flags = refl; origins = refl }
even-closed p (k ∷ l ∷ ks) =
    let n = length-corners p (k ∷ l ∷ ks) in
    record { flags = length-flags_of (k ∷ l ∷ ks) ∙ sym n; origins = length-origins_of (k ∷ l ∷ ks) ∙ sym n }

even-walk : (closed : Bool) (σ : Settings) (a b : PlineVertex) (vs : List PlineVertex) → Even (walk_drawing closed σ a b vs)
even-walk false σ a b vs = rw (open_drawing σ a b vs) (even_open _ _)
even-walk true σ a b vs = rw (closed-drawing σ a b vs) (even-closed _ _)

even_either : (t : Bool) (d : Drawing) → Even d → Even (when t give nothing else d)
unfolding when◌give◌else◌
even_either true d e = even-nothing
even_either false d e = e

even-drawing : (closed : Bool) (σ : Settings) (vs : List PlineVertex) → Even (drawing_of closed σ vs)
unfolding drawing_of
even-drawing closed σ [] = even-nothing
even-drawing closed σ (a ∷ []) = even-nothing
even-drawing closed σ (a ∷ b ∷ vs) = even_either _ _ (even-walk closed σ a b vs)

even-copied : (closed : Bool) (vs : List PlineVertex) → 2 ≤ length vs → Even (copied closed vs)
unfolding copied segment_count when◌give◌else◌
even-copied true vs h = let n = segments-closed (length vs) h in record { flags = length-replicate _ 0 ∙ n; origins = length_spans 0 _ ∙ n }
even-copied false vs h = let n = segments_open (length vs) h in record { flags = length-replicate _ 0 ∙ n; origins = length_spans 0 _ ∙ n }

-- ---- a job that is done with a drawing

record DoneWith (j : Job) (d : Drawing) : Type 0 where
  is : outcome j ≡ placed (places j) (drawn d) j.buffers
  even : Even d
  few-origins : length d.origins ≤ places j
  few-vertices : count j ≤ 4096
  level : NeverFalling 0 (map segment_of d.origins)
  below : (o : Origin) → Memᴰ o d.origins → segment_of o < sources j
  one : (s : ℕ) → T (eq j.settings.offset zero) → s < sources j → part_of s d.origins ≡ part_at s 1

own : {A : Type 0} (z : A) (n : ℕ) (xs old : List A) (k : ℕ) → length xs ≡ k → take k (padded z n xs old) ≡ xs
own z n xs old k h = rw append_assoc (take_at xs _ k h)

module _ (j : Job) (d : Drawing) (w : DoneWith j d) (s : ℕ) where
  claim : Claim j s
  unfolding shown
  claim =
      let e = w.even in
      let flags = ap (λ o. take (segment_count d) o.buffers.flags) w.is ∙ own 0 (places j) d.flags j.buffers.flags (segment_count d) e.flags in
      let origins = ap (λ o. take (segment_count d) o.buffers.origins) w.is ∙ own no_origin (places j) d.origins j.buffers.origins (segment_count d) e.origins in
      let same = ap length flags ∙ e.flags ∙ sym e.origins ∙ sym (ap length origins) in
      let most = segments-most j.closed (count j) in
      let three = product_most (moves_a_segment j.settings.corners) 3 (sources j) (moves-few j.settings.corners) in
      let whole : take 0xffff_ffff d.origins ≡ d.origins = take_all 0xffff_ffff d.origins (omega (arith, w.few-origins, w.few-vertices, three)) in
      record {
        drawing = d;
        done = ap (λ o. o.answer) w.is;
        flags = flags;
        origins = origins;
        each-flag = e.flags;
        each-origin = e.origins;
        never_falls = w.level;
        below = w.below;
        none_such = λ h. sym (none_such _ _ _ _ same h);
        found = λ h. sym (found _ _ _ _ same h (ap (part_of s) (sym whole ∙ ap (take 0xffff_ffff) (sym origins))));
        all = λ i o x. subst (λ (p : Origin). (segment_of p ≡ s) ↔ In (part_of s d.origins) i) x.is (exactly s d.origins o w.level i x.there);
        within = λ i h. omega (arith, part-within s d.origins, e.origins);
        copied = w.one s;
      }

-- ---- by the ways out of a job

module _ (j : Job) where
  done-few : Numbers j → count j < 2 → outcome j ≡ placed (places j) (drawn nothing) j.buffers → DoneWith j nothing
  done-few n l e = record {
    is = e;
    even = even-nothing;
    few-origins = omega arith;
    few-vertices = n.countable.few;
    level = none;
    below = λ o x. absurd (Memᴰ.not-nil x);
    one = λ s z m. let none = segments-none j.closed (count j) l in absurd (omega arith);
  }

  done-copy : Roomy j → outcome j ≡ placed (places j) (drawn (copied j.closed (points j))) j.buffers → DoneWith j (copied j.closed (points j))
  unfolding copied
  done-copy r e =
      let n = sources j in
      let spans = length_spans 0 n in
      let more = product_most 1 (moves_a_segment j.settings.corners) (sources j) (omega (arith, two-moves j.settings.corners)) in
      record {
        is = e;
        even = even-copied j.closed (points j) r.two;
        few-origins = omega (arith, more);
        few-vertices = r.numbers.countable.few;
        level = in_front _ _ (spans_climb 0 n);
        below = λ o x. omega (arith, spans_below 0 n x);
        one = λ s z m. copy-part s n (omega arith);
      }

  done-whole : Numbers j → (T (eq j.settings.offset zero) → ⊥) → outcome j ≡ placed (places j) (drawn (drawing j)) j.buffers → DoneWith j (drawing j)
  done-whole n z e =
      let room = drawing-fits j.closed j.settings (points j) in
      record {
        is = e;
        even = even-drawing j.closed j.settings (points j);
        few-origins = omega (arith, room.flags, room.origins);
        few-vertices = n.countable.few;
        level = drawing_never_falls j.closed j.settings (points j);
        below = λ o x. omega (arith, drawing-below j.closed j.settings (points j) x);
        one = λ s y m. absurd (z y);
      }

by_way : (j : Job) (w : Way j) → leads_to j w ≡ outcome j → number (leads_to j w).answer ≡ 0 → (s : ℕ) → Claim j s
by_way j (ragged r) e h = absurd (omega arith)
by_way j (many r) e h = absurd (omega arith)
by_way j (bad k r) e h = absurd (omega arith)
by_way j (few n l) e h = claim j _ (done-few j n l (sym e))
by_way j (tight r) e h = absurd (omega arith)
by_way j (copy r z) e h = claim j _ (done-copy j r (sym e))
by_way j (repeated k r) e h = absurd (omega arith)
by_way j (endless r) e h = absurd (omega arith)
by_way j (whole d f) e h = claim j _ (done-whole j d.roomy.numbers d.nonzero (sym e))

pub parts : (j : Job) → number (outcome j).answer ≡ 0 → (s : ℕ) → Claim j s
parts j h = by_way j (way j) (ends j (way j)) (ap (λ o. number o.answer) (ends j (way j)) ∙ h)
