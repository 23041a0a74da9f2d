-- What each branch of the code shows of a step: the head, a vertex, the end, and what is cut short. Assumes nothing.
use mathlib.Core.Path.{◌≡◌, refl, sym, ap, ◌∙◌}
use mathlib.Core.Bool.{Bool, true, false, not}
use mathlib.Core.List.{List, []}
use Prim.Native.Nat.{ℕ}
use borrow.Author.Tests.{eq-eqb, ne_eqb, eqb-true, not-true, not-false}
use lib.ListN.{length}
use lib.Ieee.{Float}
use Rattle.floats.proofs.Choice.{yes, no, both_pass}
use Rattle.floats.specs.Binary64.{zero}
use Rattle.segments.specs.declared.Settings.{Settings}
use Rattle.segments.specs.Modes.{round_by}
use Rattle.source.specs.Source.{vertices_in}
use Rattle.sheet.specs.Buffers.{Buffers}
use Rattle.packed.specs.Text.{refusal_of}
use Rattle.pieces.specs.declared.OpenJob.{OpenJob}
use Rattle.pieces.specs.declared.DrawAnswer.{DrawAnswer}
use Rattle.pieces.specs.Calls.{Started, started, start_call, called, draw_call, end_call}
use Rattle.pen_reply.specs.Pen.{well_formed, settings_in, numbers_in, piece_text, closing_text, segments_before, said, blank, malformed, start_said, draw_said, end_said, begin_of, draw_of, end_of, next_of}

-- ---- the head

module _ (head : List ℕ) {r : Bool} (tested : r ≡ well_formed head) where
  pub sized : not r ≡ false → length head ≡ 25
  unfolding well_formed
  sized e = eqb-true _ _ ((both_pass _ _).0 (sym tested ∙ not-false _ e)).0

  pub head_malformed : not r ≡ true → {σ : Settings} {a : DrawAnswer} {j : OpenJob} → started a j ≡ start_call σ → σ ≡ round_by zero zero → begin_of head ≡ malformed j
  unfolding begin_of
  head_malformed e s f = sym (no _ _ _ (sym tested ∙ not-true _ e) (ap (λ (t : Started). malformed t.job) (s ∙ ap start_call f)))

  module _ (e : not r ≡ false) {σ : Settings} (asked : σ ≡ settings_in head) {a : DrawAnswer} {j : OpenJob} (s : started a j ≡ start_call σ) where
    head_said : begin_of head ≡ start_said (started a j)
    unfolding begin_of
    head_said = sym (yes _ _ _ (sym tested ∙ not-false _ e) (ap start_said (s ∙ ap start_call asked)))

    pub head_refused : (a.number ≡ 0 → ⊥) → begin_of head ≡ said j false (refusal_of a.number a.place)
    unfolding start_said
    head_refused z = head_said ∙ sym (no _ _ _ (ne_eqb _ _ z) refl)

    pub head_begun : a.number ≡ 0 → begin_of head ≡ said j true []
    unfolding start_said
    head_begun z = head_said ∙ sym (yes _ _ _ (eq-eqb _ _ z) refl)

-- ---- a vertex, and the end

module _ (j : OpenJob) {a : DrawAnswer} {after : OpenJob} {b : Buffers} where
  module _ (bytes : List ℕ) {s : List Float} (given : s ≡ numbers_in bytes) (e : called a after b ≡ draw_call j s blank) where
    pub draw-refused : (a.number ≡ 0 → ⊥) → draw_of j bytes ≡ said after false (refusal_of a.number a.place)
    unfolding draw_of draw_said
    draw-refused z = rw (← given, ← e) (sym (no _ _ _ (ne_eqb _ _ z) refl))

    pub draw-done : a.number ≡ 0 → draw_of j bytes ≡ said after true (piece_text a (vertices_in b.vertices) b.flags b.origins)
    unfolding draw_of draw_said
    draw-done z = rw (← given, ← e) (sym (yes _ _ _ (eq-eqb _ _ z) refl))

  module _ (e : called a after b ≡ end_call j blank) where
    pub end_refused : (a.number ≡ 0 → ⊥) → end_of j ≡ said after false (refusal_of a.number a.place)
    unfolding end_of end_said
    end_refused z = rw (← e) (sym (no _ _ _ (ne_eqb _ _ z) refl))

    pub end-done : a.number ≡ 0 → {before : ℕ} → before ≡ segments_before j → end_of j ≡ said after false (closing_text before a (vertices_in b.vertices) b.flags b.origins)
    unfolding end_of end_said
    end-done z f = rw (← e, f) (sym (yes _ _ _ (eq-eqb _ _ z) refl))

-- ---- what follows the head

module _ (j : OpenJob) (bytes : List ℕ) where
  pub next-end : length bytes ≡ 0 → next_of j bytes ≡ end_of j
  unfolding next_of
  next-end e = sym (yes _ _ _ (eq-eqb _ _ e) refl)

  pub next-vertex : (length bytes ≡ 0 → ⊥) → length bytes ≡ 24 → next_of j bytes ≡ draw_of j bytes
  unfolding next_of
  next-vertex z e = sym (no _ _ _ (ne_eqb _ _ z) (yes _ _ _ (eq-eqb _ _ e) refl))

  pub next-malformed : (length bytes ≡ 0 → ⊥) → (length bytes ≡ 24 → ⊥) → next_of j bytes ≡ malformed j
  unfolding next_of
  next-malformed z e = sym (no _ _ _ (ne_eqb _ _ z) (no _ _ _ (ne_eqb _ _ e) refl))
