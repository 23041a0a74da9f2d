-- The law of drawn vertices, over any settings (02's 2026-05): the piece handed out and the end's, joined, are the drawing of all vertices (`pieces_whole`); what is handed out begins that
-- drawing, refused or not (`pieces-begin`); vertices can be drawn in groups (`grouped`, `piece-apart`); and vertices that the whole form accepts are all taken (`accepted-goes`).
-- Assumes nothing.
use mathlib.Core.Path.{◌≡◌, refl, sym, ap, ◌∙◌, subst}
use mathlib.Core.List.{List, [], ◌∷◌, ◌++◌, append_assoc, append-nil}
use mathlib.Core.Bool.{Bool, true, false, not}
use Prim.Native.Nat.{ℕ, ◌≤◌}
use native.Mathlib.Omega.{arith}
use borrow.Author.Tests.{ltb-true, lt-leb}
use lib.Dec.{ltb}
use lib.ListN.{length, length-append}
use lib.Seq.{append_snoc}
use lib.Ieee.{eq}
use Rattle.floats.specs.Binary64.{zero}
use Rattle.floats.specs.Choice.{when◌give◌else◌, ◌and◌}
use Rattle.floats.proofs.Choice.{yes, no, and_yes, and_no, both_pass}
use Rattle.segments.specs.declared.Settings.{Settings}
use Rattle.segments.specs.declared.PlineVertex.{PlineVertex}
use Rattle.refusals.specs.Limits.{good_vertex, repeats}
use Rattle.refusals.proofs.First.{by_test}
use Rattle.moves.specs.Drawing.{Drawing, all_finite}
use Rattle.course.specs.declared.Course.{Course}
use Rattle.course.specs.Course.{◌then◌, no_course, step_on, refusal_of, Drawn, draw_one, draw_all, none_drawn, end_piece, end_refusal}
use Rattle.course.specs.Joined.{drawn_whole, Beginning}
use Rattle.course.proofs.Strokes.{finite-append}
use Rattle.course.proofs.Counts.{one-shut, one_on, one-refused, one-by, Counts, all-counts}
use Rattle.course.proofs.Reached.{then_assoc, then-nothing, Reached, none, reach_on, whole, begins, all-taken, last-held}

-- ---- in groups

pub grouped : (σ : Settings) (us vs : List PlineVertex) (d : Drawn) → draw_all σ (us ++ vs) d ≡ draw_all σ vs (draw_all σ us d)
unfolding draw_all
grouped σ [] vs d = refl
grouped σ (u ∷ us) vs d = grouped σ us vs (draw_one σ u d)

-- after a refusal nothing more is handed out
pub shut : (σ : Settings) (vs : List PlineVertex) (d : Drawn) → (d.refusal ≡ 0 → ⊥) → draw_all σ vs d ≡ d
unfolding draw_all
shut σ [] d h = refl
shut σ (v ∷ vs) d h = rw (one-shut σ v d h) (shut σ vs d h)

-- with a piece before what is handed out
abbrev pub after : Drawing → Drawn → Drawn
after p d = record { piece = p then d.piece; course = d.course; refusal = d.refusal }

one-after : (σ : Settings) (c : PlineVertex) (p : Drawing) (d : Drawn) → draw_one σ c (after p d) ≡ after p (draw_one σ c d)
one-after σ c p d =
    one-by σ c d (λ (e : Drawn). draw_one σ c (after p d) ≡ after p e) (λ h. one-shut σ c (after p d) h)
    (λ h e. one_on σ c (after p d) h e ∙ rw (then_assoc p d.piece (step_on σ d.course c).piece)) (λ h e. one-refused σ c (after p d) h e)

all_after : (σ : Settings) (vs : List PlineVertex) (p : Drawing) (d : Drawn) → draw_all σ vs (after p d) ≡ after p (draw_all σ vs d)
unfolding draw_all
all_after σ [] p d = refl
all_after σ (v ∷ vs) p d = rw (one-after σ v p d) (all_after σ vs p (draw_one σ v d))

-- the piece of a call is by itself
pub piece-apart : (σ : Settings) (vs : List PlineVertex) (d : Drawn) → d.refusal ≡ 0 → d.piece.closed ≡ false → draw_all σ vs d ≡ after d.piece (draw_all σ vs (none_drawn d.course))
piece-apart σ vs d h o = ap (draw_all σ vs) (rw (then-nothing d.piece o, ← h)) ∙ all_after σ vs d.piece (none_drawn d.course)

-- ---- how far vertices are taken

record Went (σ : Settings) (vs : List PlineVertex) (d : Drawn) : Type 0 where
  pub taken : List PlineVertex
  pub rest : List PlineVertex
  pub both : taken ++ rest ≡ vs
  pub reached : Reached σ taken d.piece d.course
  pub done : d.refusal ≡ 0 → rest ≡ []

-- all of them, where none is refused
went_through : {σ : Settings} {vs : List PlineVertex} {d : Drawn} → Went σ vs d → d.refusal ≡ 0 → Reached σ vs d.piece d.course
went_through {σ} {vs} {d} g h =
    subst (λ (us : List PlineVertex). Reached σ us d.piece d.course) (sym (append-nil g.taken) ∙ ap (λ (us : List PlineVertex). g.taken ++ us) (sym (g.done h)) ∙ g.both) g.reached

went-one : (σ : Settings) (vs : List PlineVertex) (c : PlineVertex) (d : Drawn) → Went σ vs d → Went σ (vs ++ c ∷ []) (draw_one σ c d)
went-one σ vs c d g =
    one-by σ c d (λ (e : Drawn). Went σ (vs ++ c ∷ []) e)
    (λ h. record { taken = g.taken; rest = g.rest ++ c ∷ []; both = sym (append_assoc g.taken g.rest (c ∷ [])) ∙ ap (λ (us : List PlineVertex). us ++ c ∷ []) g.both; reached = g.reached; done = λ e. absurd (h e) })
    (λ h e. record { taken = vs ++ c ∷ []; rest = []; both = append-nil (vs ++ c ∷ []); reached = reach_on σ c (went_through g h); done = λ y. refl })
    (λ h e. record { taken = vs; rest = c ∷ []; both = refl; reached = went_through g h; done = λ y. absurd (e y) })

went-all : (σ : Settings) (us vs : List PlineVertex) (d : Drawn) → Went σ us d → Went σ (us ++ vs) (draw_all σ vs d)
unfolding draw_all
went-all σ us [] d g = rw (append-nil us) g
went-all σ us (v ∷ vs) d g = subst (λ (ws : List PlineVertex). Went σ ws (draw_all σ vs (draw_one σ v d))) (append_snoc us v vs) (went-all σ (us ++ v ∷ []) vs (draw_one σ v d) (went-one σ us v d g))

-- ---- the law

module _ (σ : Settings) (vs : List PlineVertex) where
  abbrev pub drawn_all : Drawn
  drawn_all = draw_all σ vs (none_drawn no_course)

  went : Went σ vs drawn_all
  went = went-all σ [] vs (none_drawn no_course) (record { taken = []; rest = []; both = refl; reached = none; done = λ e. refl })

  pub all-reached : drawn_all.refusal ≡ 0 → Reached σ vs drawn_all.piece drawn_all.course
  all-reached h = went_through went h

  pub pieces_whole : drawn_all.refusal ≡ 0 → drawn_all.piece then end_piece σ drawn_all.course ≡ drawn_whole σ vs
  pieces_whole h = whole (all-reached h)

  pub pieces-begin : Beginning drawn_all.piece (drawn_whole σ vs)
  pieces-begin = let g = went in subst (λ (us : List PlineVertex). Beginning drawn_all.piece (drawn_whole σ us)) g.both (begins g.rest g.reached)

  -- what a course counts that was reached
  pub counted : Counts σ drawn_all.course
  counted = all-counts σ vs (none_drawn no_course) (record { taken = omega arith; number = omega arith })

  pub taken-all : drawn_all.refusal ≡ 0 → drawn_all.course.taken ≡ length vs
  taken-all h = all-taken (all-reached h)

-- ---- vertices that the whole form accepts

pub record Accepts (σ : Settings) (vs : List PlineVertex) : Type 0 where
  pub few : length vs ≤ 4096
  pub good : (us : List PlineVertex) (c : PlineVertex) (ws : List PlineVertex) → us ++ c ∷ ws ≡ vs → good_vertex c ≡ true
  pub apart : eq σ.offset zero ≡ false → (us : List PlineVertex) (a b : PlineVertex) (ws : List PlineVertex) → us ++ a ∷ b ∷ ws ≡ vs → repeats a b ≡ false
  pub finite : eq σ.offset zero ≡ false → all_finite (drawn_whole σ vs).vertices ≡ true

-- the parts of finite vertices
finite-first : (us vs ws : List PlineVertex) → us ++ vs ≡ ws → all_finite ws ≡ true → (all_finite us ≡ true) × (all_finite vs ≡ true)
finite-first us vs ws e h = (both_pass (all_finite us) (all_finite vs)).0 (sym (finite-append us vs) ∙ ap all_finite e ∙ h)

then-finite : (p q : Drawing) → all_finite (p then q).vertices ≡ true → all_finite q.vertices ≡ true
unfolding ◌then◌
then-finite p q h = (finite-first p.vertices q.vertices _ refl h).1

module _ (σ : Settings) where
  no-refusal : (vs us : List PlineVertex) (c : PlineVertex) {p : Drawing} {w : Course} → Reached σ us p w → Accepts σ (us ++ c ∷ vs) → refusal_of σ w c ≡ 0
  unfolding refusal_of
  no-refusal vs us c {p} {w} r a =
      let t = all-taken r in
      let l = length-append us (c ∷ vs) in
      let m = a.few in
      sym (no _ _ _ (lt-leb 4096 w.taken (omega arith)) (no _ _ _ (ap not (a.good us c vs refl)) (by (eq σ.offset zero) refl)))
    where
      apart : eq σ.offset zero ≡ false → (ltb 0 w.taken and repeats w.last c) ≡ false
      apart z =
          by_test (ltb 0 w.taken)
          (λ (h : ltb 0 w.taken ≡ true).
          let f = last-held r (ltb-true 0 w.taken h) in
          sym (and_yes _ _ h (sym (a.apart z f.0 w.last c vs (sym (append_snoc f.0 w.last (c ∷ vs)) ∙ ap (λ (ts : List PlineVertex). ts ++ c ∷ vs) f.1)))))
          (λ (h : ltb 0 w.taken ≡ false). sym (and_no _ _ h refl))

      finite : eq σ.offset zero ≡ false → all_finite (step_on σ w c).piece.vertices ≡ true
      finite z =
          let b = begins vs (reach_on σ c r) in
          let f = finite-first (p then (step_on σ w c).piece).vertices b.vertices _ b.vertices-begin (ap (λ (ts : List PlineVertex). all_finite (drawn_whole σ ts).vertices) (append_snoc us c vs) ∙ a.finite z) in
          then-finite p (step_on σ w c).piece f.0

      by : (z : Bool) → eq σ.offset zero ≡ z
          → ◌≡◌ {A = ℕ} 0 (when z give 0 else when ltb 0 w.taken and repeats w.last c give 5 else when all_finite (step_on σ w c).piece.vertices give 0 else 6)
      by true z = unfold when◌give◌else◌ in refl
      by false z = unfold when◌give◌else◌ in no _ _ _ (apart z) (yes _ _ _ (finite z) refl)

  goes_on : (vs us : List PlineVertex) (d : Drawn) → Reached σ us d.piece d.course → d.refusal ≡ 0 → Accepts σ (us ++ vs) → (draw_all σ vs d).refusal ≡ 0
  unfolding draw_all
  goes_on [] us d r h a = h
  goes_on (v ∷ vs) us d r h a =
      ap (λ (e : Drawn). (draw_all σ vs e).refusal) (one_on σ v d h (no-refusal vs us v r a))
      ∙ (goes_on vs (us ++ v ∷ []) _ (reach_on σ v r) refl (subst (λ (ts : List PlineVertex). Accepts σ ts) (sym (append_snoc us v vs)) a))

  -- none is refused, and the end is not
  pub accepted-goes : (vs : List PlineVertex) → Accepts σ vs → ((drawn_all σ vs).refusal ≡ 0) × (end_refusal σ (drawn_all σ vs).course ≡ 0)
  unfolding end_refusal
  accepted-goes vs a = (all, by (eq σ.offset zero) refl)
    where
      all : (drawn_all σ vs).refusal ≡ 0
      all = goes_on vs [] (none_drawn no_course) none refl a

      finite : eq σ.offset zero ≡ false → all_finite (end_piece σ (drawn_all σ vs).course).vertices ≡ true
      finite z = then-finite (drawn_all σ vs).piece (end_piece σ (drawn_all σ vs).course) (ap (λ (d : Drawing). all_finite d.vertices) (pieces_whole σ vs all) ∙ a.finite z)

      by : (z : Bool) → eq σ.offset zero ≡ z → ◌≡◌ {A = ℕ} (when z give 0 else when all_finite (end_piece σ (drawn_all σ vs).course).vertices give 0 else 6) 0
      by true z = unfold when◌give◌else◌ in refl
      by false z = unfold when◌give◌else◌ in sym (yes _ _ _ (finite z) refl)
