-- The whole question over a source that is lent, open (`open_whole`) and closed (`closed-whole`), and what each of its tests shows of the answer. Assumes nothing.
use mathlib.Core.Path.{◌≡◌, refl, sym, ap, ◌∙◌}
use mathlib.Core.List.{List, [], ◌∷◌}
use mathlib.Core.Bool.{Bool, true, false, not}
use Prim.Native.Nat.{ℕ, ◌+◌, ◌*◌, ◌-◌, ◌<◌, ◌≤◌}
use native.Mathlib.Omega.{arith}
use borrow.Author.Tests.{lt-ltb, le-ltb}
use lib.Dec.{eqb}
use lib.ListN.{length, drop}
use lib.Ieee.{eq}
use Rattle.std.specs.Prelude.{None, Some, Result, Err}
use Rattle.floats.specs.Binary64.{zero}
use Rattle.floats.specs.Choice.{when◌give◌else◌}
use Rattle.floats.proofs.Choice.{yes, no}
use Rattle.segments.specs.declared.PlineVertex.{PlineVertex}
use Rattle.segments.specs.declared.Settings.{Settings}
use Rattle.source.specs.Source.{Lent, vertices_in, Whole, is_whole, segments_of}
use Rattle.source.specs.InnerSteps.{vertex_of, next_of}
use Rattle.source.proofs.Source.{whole_passes}
use Rattle.source.proofs.Segments.{segments-none}
use Rattle.refusals.specs.declared.Refusal.TheVariants.{Ragged, TooMany, BadNumber, Repeated, NotFinite, NoSuchSegment}
use Rattle.refusals.specs.Limits.{number_tests, repeat_tests, first_of}
use Rattle.moves.specs.Drawing.{all_finite}
use Rattle.walk.specs.Walk.{drawing_of, copied}
use Rattle.walk.specs.InnerSteps.{standing_at, Fit}
use Rattle.sheet.specs.InnerSteps.{routed}
use Rattle.sheet.proofs.Routes.{length-routed, first_two, others, last-is, open_route, lead_route, around_route}
use Rattle.sheet.proofs.Loop.{advance-moved}
use Rattle.job.specs.Verdict.{Verdict, refused, drawn, finite_verdict, distinct_verdict, roomy_verdict, verdict_of}
use Rattle.walk.proofs.Lengths.{moves-few}
use Rattle.job.proofs.Ways.{found, not_found}
use Rattle.why.specs.declared.Asking.{Asking}
use Rattle.why.specs.Why.{copy_answer, walk_answer, answer_by, why_of}
use Rattle.why.specs.InnerSteps.{Asked, asked, standing_asked, asked_turn, asks, Ready, finish_of, last_answer, closing_answer, drawn_answer, good_answer}
use Rattle.why.proofs.Asked.{open_answered, closed-answered}
use Rattle.refusals.specs.declared.Refusal.{Refusal}
use Rattle.why.specs.declared.Telling.{Telling}

-- ---- numbers stay small

-- n turns add so much at most
pub record Added (n : ℕ) (q q' : Asked) : Type 0 where
  pub source : q'.stood.walker.source.0 ≤ q.stood.walker.source.0 + n
  pub number : q'.stood.pen.number.0 ≤ q.stood.pen.number.0 + 3 * n

asks_added : (closed : Bool) (σ : Settings) (k : ℕ) (vs : List PlineVertex) (q : Asked) → Added (length vs) q (asks closed σ k vs q)
unfolding asks asked_turn
asks_added closed σ k [] q = record { source = omega arith; number = omega arith }
asks_added closed σ k (c ∷ vs) q =
    let m = advance-moved closed σ c q.stood in
    let n = asks_added closed σ k vs (asked_turn closed σ k c q) in
    record { source = omega (arith, m.source, n.source); number = omega (arith, m.number, n.number, moves-few σ.corners) }

-- and of the code
pub turns_added : (closed : Bool) (σ : Settings) (k : ℕ) (vs : List PlineVertex) (v n p : ℕ) (a : Asking) (q : Asked) → asked a ≡ asks closed σ k (routed v n p vs) q → Added n q (asked a)
turns_added closed σ k vs v n p a q e = rw e (rw (length-routed v n p vs) at (asks_added closed σ k (routed v n p vs) q))

pub none_added : (m : ℕ) (v : PlineVertex) (a : Asking) → asked a ≡ standing_asked v m → (a.walk.source.0 ≡ 0) × (a.walk.pen.number.0 ≡ 0)
unfolding standing_asked standing_at
none_added m v a e = (ap (λ (x : Asked). x.stood.walker.source.0) e, ap (λ (x : Asked). x.stood.pen.number.0) e)

pub ready-first : (n m : ℕ) (v : PlineVertex) (a : Asking) → (asked a ≡ standing_asked v m) × Fit a.walk → n ≤ 4096 → Ready n a
ready-first n m v a e l = let z = none_added m v a e.0 in record { fit = e.1; sources = omega (arith, z.0); outputs = omega (arith, z.1) }

-- ---- the source
module _ (σ : Settings) (k : ℕ) (vs : List PlineVertex) (v : ℕ) (long : v ≡ length vs) (two : 2 ≤ v) where
  abbrev rest : List PlineVertex
  rest = drop 2 vs

  pub open_whole : last_answer (eqb v 2) σ.eps k (asks false σ k (routed v (v - 1) 1 vs) (standing_asked (vertex_of vs 0) 1)) ≡ drawn_answer false σ vs k
  open_whole =
      rw (open_route vs v long two)
      (ap (λ n. last_answer (eqb n 2) σ.eps k (asks false σ k (vertex_of vs 1 ∷ rest) (standing_asked (vertex_of vs 0) 1))) (sym (others vs v long two))
      ∙ open_answered σ k (vertex_of vs 0) (vertex_of vs 1) rest
      ∙ ap (λ (ws : List PlineVertex). drawn_answer false σ ws k) (sym (first_two vs v long two)))

  pub closed-whole : let led = asks true σ k (routed v 2 0 vs) (standing_asked (vertex_of vs (v - 1)) 2) in
      closing_answer led.entry σ.eps k (asks true σ k (routed v (v - 1) (next_of v 1) vs) led) ≡ drawn_answer true σ vs k
  closed-whole =
      rw (lead_route vs v long two, around_route vs v long two, ← last-is vs v long two)
      (closed-answered σ k (vertex_of vs 0) (vertex_of vs 1) rest ∙ ap (λ (ws : List PlineVertex). drawn_answer true σ ws k) (sym (first_two vs v long two)))

  -- as the code asks: led in, and once around
  pub closed-asked : (first led : Asking) {a : Asked} {p : ℕ} → asked first ≡ standing_asked (vertex_of vs (v - 1)) 2 → asked led ≡ asks true σ k (routed v 2 0 vs) (asked first)
      → p ≡ next_of v 1 → a ≡ asks true σ k (routed v (v - 1) p vs) (asked led) → closing_answer led.entry σ.eps k a ≡ drawn_answer true σ vs k
  closed-asked first led f l n e =
      rw (e, n) (ap (λ (q : Asked). closing_answer q.entry σ.eps k (asks true σ k (routed v (v - 1) (next_of v 1) vs) q)) (l ∙ rw f) ∙ closed-whole)

-- ---- from the zero offset on
module _ (closed : Bool) (σ : Settings) (vs : List PlineVertex) (k : ℕ) where
  pub copy-good : eq σ.offset zero ≡ true → {a : Result Telling Refusal} → a ≡ copy_answer (segments_of closed (length vs)) k → a ≡ good_answer closed σ vs k
  unfolding good_answer
  copy-good e q = yes _ _ _ e q

  pub repeated-good : eq σ.offset zero ≡ false → (i : ℕ) → first_of (repeat_tests closed vs) ≡ Some i → Err (Repeated i) ≡ good_answer closed σ vs k
  unfolding good_answer distinct_verdict
  repeated-good e i h = no _ _ _ e (ap (λ (x : Verdict). answer_by x (walk_answer closed σ vs k)) (found _ i _ _ h))

  finite-answer : drawn_answer closed σ vs k ≡ answer_by (finite_verdict (drawing_of closed σ vs)) (walk_answer closed σ vs k)
  unfolding drawn_answer finish_of finite_verdict
  finite-answer = by (all_finite (drawing_of closed σ vs).vertices)
    where
      by : (t : Bool) → when t give walk_answer closed σ vs k else Err NotFinite ≡ answer_by (when t give drawn (drawing_of closed σ vs) else refused NotFinite) (walk_answer closed σ vs k)
      by true = unfold when◌give◌else◌ in refl
      by false = unfold when◌give◌else◌ in refl

  pub drawn-good : eq σ.offset zero ≡ false → first_of (repeat_tests closed vs) ≡ None → {a : Result Telling Refusal} → a ≡ drawn_answer closed σ vs k → a ≡ good_answer closed σ vs k
  unfolding good_answer distinct_verdict
  drawn-good e h q = no _ _ _ e (q ∙ finite-answer ∙ ap (λ (x : Verdict). answer_by x (walk_answer closed σ vs k)) (not_found _ _ _ h refl))

-- ---- the first tests
module _ (s : Lent) (closed : Bool) (σ : Settings) (k : ℕ) where
  abbrev vertices : List PlineVertex
  vertices = vertices_in s

  -- what is told where the job is drawn
  abbrev told : Result Telling Refusal
  told = when eq σ.offset zero give copy_answer (segments_of closed (length vertices)) k else walk_answer closed σ vertices k

  abbrev verdict : Verdict
  verdict = verdict_of (λ room. true) closed σ vertices

  pub ragged-why : is_whole s ≡ false → Err Ragged ≡ why_of s closed σ k
  unfolding why_of
  ragged-why h = yes _ _ _ (ap not h) refl

  module _ (h : Whole s) (v : ℕ) (long : v ≡ length vertices) where
    counted : {a : Result Telling Refusal} → a ≡ answer_by verdict told → a ≡ why_of s closed σ k
    unfolding why_of
    counted q = no _ _ _ (ap not (whole_passes s h)) q

    pub many-why : 4096 < v → Err TooMany ≡ why_of s closed σ k
    unfolding verdict_of
    many-why m = counted (ap (λ (x : Verdict). answer_by x told) (yes _ _ _ (lt-ltb 4096 (length vertices) (rw (← long) m)) refl))

    module _ (most : v ≤ 4096) where
      few-enough : {a : Result Telling Refusal} {x : Verdict} → a ≡ answer_by x told → x ≡ verdict_of (λ room. true) closed σ vertices → a ≡ why_of s closed σ k
      few-enough q e = counted (q ∙ ap (λ (y : Verdict). answer_by y told) e)

      pub bad-why : (i : ℕ) → first_of (number_tests vertices σ) ≡ Some i → Err (BadNumber i) ≡ why_of s closed σ k
      unfolding verdict_of
      bad-why i e = few-enough refl (no _ _ _ (le-ltb 4096 (length vertices) (rw (← long) most)) (found _ i _ _ e))

      module _ (e : first_of (number_tests vertices σ) ≡ None) where
        none_told : (vs : List PlineVertex) → length vs < 2
            → Err NoSuchSegment ≡ when eq σ.offset zero give copy_answer (segments_of closed (length vs)) k else walk_answer closed σ vs k
        unfolding when◌give◌else◌
        none_told vs l = rw (segments-none closed (length vs) l, walk_none vs l) (by (eq σ.offset zero))
          where
            walk_none : (us : List PlineVertex) → length us < 2 → walk_answer closed σ us k ≡ Err NoSuchSegment
            walk_none [] l = unfold walk_answer in refl
            walk_none (a ∷ []) l = unfold walk_answer in refl
            walk_none (a ∷ b ∷ us) l = absurd (omega arith)

            copy-none : copy_answer 0 k ≡ Err NoSuchSegment
            copy-none = unfold copy_answer in rw (le-ltb k 0 (omega arith))

            by : (t : Bool) → Err NoSuchSegment ≡ when t give copy_answer 0 k else Err NoSuchSegment
            by true = sym copy-none
            by false = refl

        pub few-why : v < 2 → Err NoSuchSegment ≡ why_of s closed σ k
        unfolding verdict_of
        few-why l =
            few-enough (none_told vertices (rw (← long) l))
            (no _ _ _ (le-ltb 4096 (length vertices) (rw (← long) most)) (not_found _ _ _ e (yes _ _ _ (lt-ltb (length vertices) 2 (rw (← long) l)) refl)))

        roomy : answer_by (roomy_verdict true closed σ vertices) told ≡ good_answer closed σ vertices k
        unfolding roomy_verdict good_answer when◌give◌else◌
        roomy = by (eq σ.offset zero)
          where
            by : (t : Bool) → answer_by (when t give drawn (copied closed vertices) else distinct_verdict closed σ vertices)
                (when t give copy_answer (segments_of closed (length vertices)) k else walk_answer closed σ vertices k)
                ≡ when t give copy_answer (segments_of closed (length vertices)) k else answer_by (distinct_verdict closed σ vertices) (walk_answer closed σ vertices k)
            by true = refl
            by false = refl

        pub good-why : 2 ≤ v → {a : Result Telling Refusal} → a ≡ good_answer closed σ vertices k → a ≡ why_of s closed σ k
        unfolding verdict_of
        good-why l q =
            few-enough (q ∙ sym roomy)
            (no _ _ _ (le-ltb 4096 (length vertices) (rw (← long) most)) (not_found _ _ _ e (no _ _ _ (le-ltb (length vertices) 2 (rw (← long) l)) refl)))
