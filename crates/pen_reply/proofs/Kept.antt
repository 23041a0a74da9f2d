-- No line is lost: a step hands out three segments at most, so that each has its place; and a vertex that is refused, or an end that is, hands out nothing, so that the refusal is all that
-- there is to print. Assumes nothing.
use mathlib.Core.Path.{◌≡◌, refl}
use mathlib.Core.Bool.{Bool, true, false}
use mathlib.Core.List.{List}
use lib.Dec.{eqb}
use Rattle.floats.specs.Choice.{when◌give◌else◌}
use Prim.Native.Nat.{ℕ, ◌≤◌}
use native.Mathlib.Omega.{arith}
use Rattle.segments.specs.declared.Corners.{Corners}
use Rattle.segments.specs.declared.Corners.TheVariants.{Round, Pointed}
use Rattle.source.specs.Source.{vertices_of}
use Rattle.moves.specs.Drawing.{nothing}
use Rattle.walk.specs.Walk.{moves_a_segment}
use Rattle.course.specs.Course.{Drawn, draw_one, draw_all, none_drawn}
use Rattle.course.proofs.Counts.{all_fit, end_fits}
use Rattle.pieces.specs.declared.OpenJob.{OpenJob}
use Rattle.pieces.specs.declared.DrawAnswer.{DrawAnswer}
use Rattle.pieces.specs.Calls.{Called, settings_of, shut_answer, drawn_call, draw_call, end_call}
use Rattle.pen_reply.specs.Pen.{numbers_in, blank}

-- what holds of both, holds of the choice
either : {X : Type 0} (P : X → Type 0) (t : Bool) (x y : X) → P x → P y → P (when t give x else y)
unfolding when◌give◌else◌
either P true x y p q = p
either P false x y p q = q

by_test : {X : Type 0} (P : X → Type 0) (t : Bool) (x y : X) → P x → (t ≡ false → P y) → P (when t give x else y)
unfolding when◌give◌else◌
by_test P true x y p q = p
by_test P false x y p q = q refl

abbrev pub Nothing : Called → Type 0
Nothing c = (c.answer.number ≡ 0 → ⊥) → (c.answer.vertices ≡ 0) × (c.answer.segments ≡ 0)

abbrev Kept : Drawn → Type 0
Kept d = eqb d.refusal 0 ≡ false → d.piece ≡ nothing

shut : (j : OpenJob) → ((shut_answer j).vertices ≡ 0) × ((shut_answer j).segments ≡ 0)
unfolding shut_answer
shut j = either (λ (a : DrawAnswer). (a.vertices ≡ 0) × (a.segments ≡ 0)) _ _ _ (refl, refl) (refl, refl)

one : (σ : _) (c : _) (w : _) → Kept (draw_one σ c (none_drawn w))
unfolding draw_one
one σ c w = either Kept _ _ _ (λ e. refl) (either Kept _ _ _ (λ e. let z : true ≡ false = e in cc) (λ e. refl))

pub draw-keeps : (j : OpenJob) (bytes : List ℕ) → Nothing (draw_call j (numbers_in bytes) blank)
unfolding draw_call drawn_call vertices_of draw_all
draw-keeps j bytes =
    either Nothing _ _ _ (λ z. shut j)
    (either Nothing _ _ _ (λ z. (refl, refl))
    (either Nothing _ _ _ (λ z. (refl, refl))
    (by_test Nothing _ _ _ (λ z. absurd (z refl)) (λ e z. let n = one _ _ _ e in rw n (refl, refl)))))

pub end-keeps : (j : OpenJob) → Nothing (end_call j blank)
unfolding end_call
end-keeps j =
    either Nothing _ _ _ (λ z. shut j) (either Nothing _ _ _ (λ z. (refl, refl)) (either Nothing _ _ _ (λ z. absurd (z refl)) (λ z. (refl, refl))))

-- ---- three at most

abbrev pub Few : Called → Type 0
Few c = (c.answer.vertices ≤ 3) × (c.answer.segments ≤ 3)

three-most : (c : Corners) → moves_a_segment c ≤ 3
three-most Round = omega arith
three-most (Pointed ratio) = omega arith

shut-few : (j : OpenJob) → ((shut_answer j).vertices ≤ 3) × ((shut_answer j).segments ≤ 3)
shut-few j = let s = shut j in (omega (arith, s.0), omega (arith, s.1))

pub draw-few : (j : OpenJob) (bytes : List ℕ) → Few (draw_call j (numbers_in bytes) blank)
unfolding draw_call drawn_call vertices_of
draw-few j bytes =
    let f = all_fit (settings_of j) (vertices_of (numbers_in bytes)) j.course in
    let m = three-most (settings_of j).corners in
    either Few _ _ _ (shut-few j)
    (either Few _ _ _ (omega arith, omega arith)
    (either Few _ _ _ (omega arith, omega arith)
    (either Few _ _ _ (omega (arith, f.vertices, m), omega (arith, f.flags, m)) (omega (arith, f.vertices, m), omega (arith, f.flags, m)))))

pub end-few : (j : OpenJob) → Few (end_call j blank)
unfolding end_call
end-few j =
    let f = end_fits (settings_of j) j.course in
    either Few _ _ _ (shut-few j)
    (either Few _ _ _ (omega arith, omega arith) (either Few _ _ _ (omega (arith, f.vertices), omega (arith, f.flags)) (omega arith, omega arith)))
