-- One law for both layouts: two jobs that are the same but for how their numbers are lent have the same answer, hold the same in every place of their buffers, and touch no number past
-- them (`carried`); and each job has such a one in the other layout (`other-same`). Assumes nothing.
use mathlib.Core.Path.{◌≡◌, refl, sym, ap, ◌∙◌, subst}
use mathlib.Core.Logic.{◌↔◌}
use mathlib.Core.List.{List, [], ◌∷◌}
use mathlib.Core.Bool.{Bool, true, false}
use Prim.Native.Nat.{ℕ, ◌≤◌}
use native.Mathlib.Omega.{arith}
use borrow.Author.Tests.{eqb-true}
use lib.Dec.{eqb}
use lib.ListN.{length}
use lib.Ieee.{Float}
use Rattle.floats.proofs.Choice.{yes, no}
use Rattle.segments.specs.declared.PlineVertex.{PlineVertex}
use Rattle.segments.specs.declared.Settings.{Settings}
use Rattle.source.specs.Source.{vertices_of, columns_of, Lent, rows, columns, vertices_in, Whole}
use Rattle.source.proofs.Source.{whole_same}
use Rattle.source.proofs.Segments.{segments-none}
use Rattle.refusals.specs.declared.Refusal.{Refusal}
use Rattle.refusals.specs.Table.{number_of}
use Rattle.moves.specs.Drawing.{Drawing, nothing}
use Rattle.sheet.specs.Buffers.{Buffers, padded, laid_in, shown}
use Rattle.sheet.specs.InnerSteps.{blank}
use Rattle.sheet.proofs.Holding.{laid-rows, laid-columns}
use Rattle.job.specs.Verdict.{Verdict, refused, drawn, verdict_of}
use Rattle.job.specs.Job.{Outcome, after_refusal, placed, has_room}
use Rattle.job.specs.Rows.{Job, outcome, fit, places}
use Rattle.job.specs.Layouts.{SameSource, SameBuffers, SameJob, beyond, Carried, firsts_of, seconds_of, thirds_of, interleaved, other, other_job}
use Rattle.job.proofs.Ways.{Way, ragged, many, bad, few, tight, copy, repeated, endless, whole, reached, judgement, judged, job-placed, way}

-- ---- vertices laid into lent numbers

pub record Laying (room : ℕ) (vs : List PlineVertex) (l : Lent) : Type 0 where
  pub made : vertices_in (laid_in room vs l) ≡ padded blank room vs (vertices_in l)
  pub beyond : beyond (laid_in room vs l) ≡ beyond l

laying : (room : ℕ) (vs : List PlineVertex) (l : Lent) → room ≤ length (vertices_in l) → Laying room vs l
laying room vs (rows ns) h = let r = laid-rows room vs ns h in record { made = r.made; beyond = ap rows r.beyond }
laying room vs (columns xs ys bs) h = let r = laid-columns room vs xs ys bs h in record { made = r.made; beyond = rw (r.x, r.y, r.bulge) }

-- ---- a drawing, shown in buffers that hold the same

-- what is shown of two such, and what stays
pub record Both (room : ℕ) (v : Verdict) (a b : Buffers) : Type 0 where
  pub same : SameBuffers (placed room v a).buffers (placed room v b).buffers
  pub first : beyond (placed room v a).buffers.vertices ≡ beyond a.vertices
  pub second : beyond (placed room v b).buffers.vertices ≡ beyond b.vertices
  pub answer : (placed room v a).answer ≡ (placed room v b).answer

module _ (room : ℕ) (a b : Buffers) (s : SameBuffers a b) where
  drawn-both : (d : Drawing) → room ≤ length (vertices_in a.vertices) → Both room (drawn d) a b
  unfolding shown
  drawn-both d h =
      let p = laying room d.vertices a.vertices h in
      let q = laying room d.vertices b.vertices (rw (← s.vertices) h) in
      record {
        same = record {
          vertices = p.made ∙ rw s.vertices (sym q.made);
          flags = rw s.flags;
          indexes = rw s.indexes;
          origins = rw s.origins;
        };
        first = p.beyond;
        second = q.beyond;
        answer = refl;
      }

  zeroed : (r : Refusal) (c : Buffers) → eqb (number_of r) 6 ≡ true → shown room nothing c ≡ after_refusal r room c
  unfolding after_refusal
  zeroed r c e = yes _ _ _ e refl

  left : (r : Refusal) (c : Buffers) → eqb (number_of r) 6 ≡ false → c ≡ after_refusal r room c
  unfolding after_refusal
  left r c e = no _ _ _ e refl

  refused-both : (r : Refusal) → (number_of r ≡ 6 → room ≤ length (vertices_in a.vertices)) → Both room (refused r) a b
  refused-both r h = by (eqb (number_of r) 6) refl
    where
      by : (t : Bool) → eqb (number_of r) 6 ≡ t → Both room (refused r) a b
      by true e =
          let z = drawn-both nothing (h (eqb-true _ _ e)) in
          record { same = rw (← zeroed r a e, ← zeroed r b e) z.same; first = rw (← zeroed r a e) z.first; second = rw (← zeroed r b e) z.second; answer = refl }
      by false e = record { same = rw (← left r a e, ← left r b e) s; first = rw (← left r a e); second = rw (← left r b e); answer = refl }

-- ---- the same job

-- where something is drawn or set to zero, it has its room
abbrev Placeable : ℕ → Verdict → ℕ → Type 0
Placeable room (refused r) n = number_of r ≡ 6 → room ≤ n
Placeable room (drawn d) n = room ≤ n

way_room : (j : Job) (w : Way j) → Placeable (places j) (reached j w) (fit j)
way_room j (ragged r) = λ e. omega arith
way_room j (many r) = λ e. omega arith
way_room j (bad k r) = λ e. omega arith
way_room j (few n h) = rw (segments-none j.closed (length (vertices_in j.source)) h) (omega arith)
way_room j (tight r) = λ e. omega arith
way_room j (copy r z) = r.vertices
way_room j (repeated k r) = λ e. omega arith
way_room j (endless r) = λ e. r.distinct.roomy.vertices
way_room j (whole d f) = d.roomy.vertices

both : (room : ℕ) (v : Verdict) (a b : Buffers) → SameBuffers a b → Placeable room v (length (vertices_in a.vertices)) → Both room v a b
both room (refused r) a b s h = refused-both room a b s r h
both room (drawn d) a b s h = drawn-both room a b s d h

room-same : (a b : Buffers) → SameBuffers a b → (room : ℕ) → has_room a room ≡ has_room b room
unfolding has_room
room-same a b s room = rw (s.vertices, s.flags, s.indexes, s.origins)

verdict_same : (a b : Buffers) → SameBuffers a b → (closed : Bool) (σ : Settings) (vs : List PlineVertex) → verdict_of (has_room a) closed σ vs ≡ verdict_of (has_room b) closed σ vs
unfolding verdict_of
verdict_same a b s closed σ vs = rw (room-same a b s)

judgement_same : (j k : Job) → SameJob j k → judgement j ≡ judgement k
judgement_same j k s = rw (whole_same j.source k.source s.source.whole, s.source.vertices, s.closed, s.settings, verdict_same j.buffers k.buffers s.buffers)

places_same : (j k : Job) → SameJob j k → places j ≡ places k
places_same j k s = rw (s.source.vertices, s.closed, s.settings)

pub carried : (j k : Job) → SameJob j k → Carried j k
carried j k s =
    let room = subst (λ (v : Verdict). Placeable (places j) v (fit j)) (judged j (way j)) (way_room j (way j)) in
    let x = both (places j) (judgement j) j.buffers k.buffers s.buffers room in
    let q : placed (places j) (judgement j) k.buffers ≡ outcome k = rw (places_same j k s, judgement_same j k s) (job-placed k) in
    record {
      answer = ap (λ (o : Outcome). o.answer) (sym (job-placed j)) ∙ x.answer ∙ ap (λ (o : Outcome). o.answer) q;
      buffers = rw (← job-placed j, ← q) x.same;
      first = rw (← job-placed j) x.first;
      second = rw (← q) x.second;
    }

-- ---- from either layout to the other

dealt_made : (ns : List Float) → columns_of (firsts_of ns) (seconds_of ns) (thirds_of ns) ≡ vertices_of ns
unfolding columns_of vertices_of firsts_of seconds_of thirds_of
dealt_made [] = refl
dealt_made (x ∷ []) = refl
dealt_made (x ∷ y ∷ []) = refl
dealt_made (x ∷ y ∷ b ∷ ns) = rw (dealt_made ns)

interleaved-made : (xs ys bs : List Float) → vertices_of (interleaved xs ys bs) ≡ columns_of xs ys bs
unfolding columns_of vertices_of interleaved
interleaved-made [] [] [] = refl
interleaved-made [] [] (b ∷ bs) = refl
interleaved-made [] (y ∷ ys) bs = refl
interleaved-made (x ∷ xs) [] bs = refl
interleaved-made (x ∷ xs) (y ∷ ys) [] = refl
interleaved-made (x ∷ xs) (y ∷ ys) (b ∷ bs) = rw (interleaved-made xs ys bs)

dealt_whole : (ns : List Float) → Whole (rows ns) ↔ Whole (other (rows ns))
unfolding firsts_of seconds_of thirds_of
dealt_whole [] = (λ e. (refl, refl), λ e. refl)
dealt_whole (x ∷ []) = (λ e. absurd (omega arith), λ e. absurd (omega (arith, e.0)))
dealt_whole (x ∷ y ∷ []) = (λ e. absurd (omega arith), λ e. absurd (omega (arith, e.1)))
dealt_whole (x ∷ y ∷ b ∷ ns) =
    let d = dealt_whole ns in
    ((λ e. let h = d.0 (omega arith) in (omega (arith, h.0), omega (arith, h.1))), (λ e. let h = d.1 (omega (arith, e.0), omega (arith, e.1)) in omega arith))

interleaved-whole : (xs ys bs : List Float) → Whole (columns xs ys bs) ↔ Whole (other (columns xs ys bs))
unfolding interleaved
interleaved-whole [] [] [] = (λ e. refl, λ e. (refl, refl))
interleaved-whole [] [] (b ∷ bs) = (λ e. absurd (omega (arith, e.1)), λ e. absurd (omega arith))
interleaved-whole [] (y ∷ ys) bs = (λ e. absurd (omega (arith, e.0)), λ e. absurd (omega arith))
interleaved-whole (x ∷ xs) [] bs = (λ e. absurd (omega (arith, e.0)), λ e. absurd (omega arith))
interleaved-whole (x ∷ xs) (y ∷ ys) [] = (λ e. absurd (omega (arith, e.1)), λ e. absurd (omega arith))
interleaved-whole (x ∷ xs) (y ∷ ys) (b ∷ bs) =
    let d = interleaved-whole xs ys bs in
    ((λ e. let h = d.0 (omega (arith, e.0), omega (arith, e.1)) in omega arith), (λ e. let h = d.1 (omega arith) in (omega (arith, h.0), omega (arith, h.1))))

other-source : (l : Lent) → SameSource l (other l)
other-source (rows ns) = record { vertices = sym (dealt_made ns); whole = dealt_whole ns }
other-source (columns xs ys bs) = record { vertices = sym (interleaved-made xs ys bs); whole = interleaved-whole xs ys bs }

pub other-same : (j : Job) → SameJob j (other_job j)
other-same j = record {
  source = other-source j.source;
  closed = refl;
  settings = refl;
  buffers = record { vertices = (other-source j.buffers.vertices).vertices; flags = refl; indexes = refl; origins = refl };
}
