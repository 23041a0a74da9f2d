-- The refusals that can be the answer to a question (`only_given`): those of the job but for room, and that there is no such segment. Assumes nothing.
use mathlib.Core.Path.{◌≡◌, subst}
use mathlib.Core.List.{List, [], ◌∷◌}
use mathlib.Core.Bool.{Bool, true, false, not}
use Prim.Native.Nat.{ℕ, zero, suc}
use lib.Dec.{ltb}
use lib.ListN.{length}
use lib.Ieee.{eq}
use Rattle.std.specs.Prelude.{None, Option, Some, Result, Ok, Err}
use Rattle.floats.specs.Binary64 as B
use Rattle.floats.specs.Choice.{when◌give◌else◌}
use Rattle.segments.specs.declared.PlineVertex.{PlineVertex}
use Rattle.segments.specs.declared.Settings.{Settings}
use Rattle.source.specs.Source.{Lent, vertices_in, is_whole, segments_of}
use Rattle.refusals.specs.declared.Refusal.{Refusal}
use Rattle.refusals.specs.declared.Refusal.TheVariants.{BadNumber, Repeated}
use Rattle.refusals.specs.Limits.{number_tests, repeat_tests, first_of}
use Rattle.moves.specs.declared.Move.{Move}
use Rattle.moves.specs.Drawing.{Drawing, all_finite}
use Rattle.walk.specs.Walk.{lone_collapsed, drawing_of}
use Rattle.walk.specs.Spans.{Edge}
use Rattle.job.specs.Verdict.{Verdict, refused, drawn, refuse◌at◌else◌, finite_verdict, distinct_verdict, roomy_verdict, verdict_of}
use Rattle.why.specs.Why.{told_at, walk_answer, copy_answer, answer_by, why_of}
use Rattle.why.specs.Claim.{Given, ragged, too_many, bad-number, repeated, not_finite, no_such_segment}
use Rattle.why.specs.declared.Telling.{Telling}

-- a choice is of the kind that both of its sides are of
either : {X : Type 0} (P : X → Type 0) (t : Bool) {x y : X} → P x → P y → P (when t give x else y)
unfolding when◌give◌else◌
either P true p q = p
either P false p q = q

-- ---- what is told

-- a telling, or one of those refusals
abbrev Answers : Result Telling Refusal → Type 0
Answers (Ok t) = Unit
Answers (Err r) = Given r

copy_answers : (n k : ℕ) → Answers (copy_answer n k)
unfolding copy_answer
copy_answers n k = either Answers (ltb k n) tt no_such_segment

kth_answers : (S E : List Edge) (ms : List Move) (k : ℕ) → Answers (told_at S E ms k)
unfolding told_at
kth_answers S E [] k = no_such_segment
kth_answers S E (m ∷ ms) zero = tt
kth_answers S E (m ∷ ms) (suc k) = kth_answers S E ms k

walk_answers : (closed : Bool) (σ : Settings) (vs : List PlineVertex) (k : ℕ) → Answers (walk_answer closed σ vs k)
unfolding walk_answer
walk_answers closed σ [] k = no_such_segment
walk_answers closed σ (a ∷ []) k = no_such_segment
walk_answers closed σ (a ∷ b ∷ vs) k = either Answers (lone_collapsed closed σ (a ∷ b ∷ vs)) no_such_segment (kth_answers _ _ _ k)

told_answers : (closed : Bool) (σ : Settings) (vs : List PlineVertex) (k : ℕ)
    → Answers (when eq σ.offset B.zero give copy_answer (segments_of closed (length vs)) k else walk_answer closed σ vs k)
told_answers closed σ vs k = either Answers (eq σ.offset B.zero) (copy_answers (segments_of closed (length vs)) k) (walk_answers closed σ vs k)

-- ---- the job's verdict with room for anything

-- a drawing, or one of those refusals
abbrev Decides : Verdict → Type 0
Decides (refused r) = Given r
Decides (drawn d) = Unit

found_decides : (r : ℕ → Refusal) → ((k : ℕ) → Given (r k)) → (p : Option ℕ) (next : Verdict) → Decides next → Decides (refuse r at p else next)
found_decides r g (Some k) next h = g k
found_decides r g None next h = h

finite_decides : (d : Drawing) → Decides (finite_verdict d)
unfolding finite_verdict
finite_decides d = either Decides (all_finite d.vertices) tt not_finite

distinct_decides : (closed : Bool) (σ : Settings) (vs : List PlineVertex) → Decides (distinct_verdict closed σ vs)
unfolding distinct_verdict
distinct_decides closed σ vs = found_decides Repeated (λ k. repeated) (first_of (repeat_tests closed vs)) _ (finite_decides (drawing_of closed σ vs))

roomy_decides : (closed : Bool) (σ : Settings) (vs : List PlineVertex) → Decides (roomy_verdict true closed σ vs)
unfolding roomy_verdict when◌give◌else◌
roomy_decides closed σ vs = either Decides (eq σ.offset B.zero) tt (distinct_decides closed σ vs)

verdict_decides : (closed : Bool) (σ : Settings) (vs : List PlineVertex) → Decides (verdict_of (λ room. true) closed σ vs)
unfolding verdict_of
verdict_decides closed σ vs =
    either Decides (ltb 4096 (length vs)) too_many
    (found_decides BadNumber (λ k. bad-number) (first_of (number_tests vs σ)) _ (either Decides (ltb (length vs) 2) tt (roomy_decides closed σ vs)))

-- ---- the answer

by_answers : (v : Verdict) (told : Result Telling Refusal) → Decides v → Answers told → Answers (answer_by v told)
by_answers (refused r) told h g = h
by_answers (drawn d) told h g = g

why_answers : (source : Lent) (closed : Bool) (σ : Settings) (k : ℕ) → Answers (why_of source closed σ k)
unfolding why_of
why_answers source closed σ k =
    let vs = vertices_in source in
    either Answers (not (is_whole source)) ragged (by_answers (verdict_of (λ room. true) closed σ vs) _ (verdict_decides closed σ vs) (told_answers closed σ vs k))

pub only_given : (source : Lent) (closed : Bool) (σ : Settings) (k : ℕ) (r : Refusal) → why_of source closed σ k ≡ Err r → Given r
only_given source closed σ k r e = subst Answers e (why_answers source closed σ k)
