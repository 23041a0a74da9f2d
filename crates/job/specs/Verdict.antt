-- What becomes of a job, over the list of its vertices and whatever the layout: a refusal, or a drawing. The tests of 01 §1 from No. 2 on, in their order.
-- Definitions only.
use Rattle.std.specs.Prelude.{None, Option, Some, ℕ, ◌*◌, List, Bool, not, ltb, length}
use Rattle.std.specs.Float.Ieee.{eq}
use Rattle.floats.specs.Binary64.{zero}
use Rattle.floats.specs.Choice.{when◌give◌else◌}
use Rattle.segments.specs.declared.Corners.{Corners}
use Rattle.segments.specs.declared.Settings.{Settings}
use Rattle.segments.specs.declared.PlineVertex.{PlineVertex}
use Rattle.source.specs.Source.{segments_of}
use Rattle.refusals.specs.declared.Refusal.{Refusal}
use Rattle.refusals.specs.declared.Refusal.TheVariants.{TooMany, BadNumber, NoRoom, Repeated, NotFinite}
use Rattle.refusals.specs.Limits.{number_tests, repeat_tests, first_of}
use Rattle.moves.specs.Drawing.{Drawing, nothing, all_finite}
use Rattle.walk.specs.Walk.{moves_a_segment, drawing_of, copied}

pub data Verdict : Type 0 where
  refused : Refusal → Verdict
  drawn : Drawing → Verdict

infixr 5 refuse◌at◌else◌
-- a refusal at the place that a search found, and else what follows
abbrev pub refuse◌at◌else◌ : (ℕ → Refusal) → Option ℕ → Verdict → Verdict
refuse r at Some k else next = refused (r k)
refuse r at None else next = next

-- 01's 2n, and 3n in the pointed mode
unfoldable pub room_for : Corners → Bool → ℕ → ℕ
room_for corners closed v = moves_a_segment corners * segments_of closed v

-- No. 6: a NaN or an infinity among the numbers drawn
unfoldable pub finite_verdict : Drawing → Verdict
finite_verdict d = when all_finite d.vertices give drawn d else refused NotFinite

-- from No. 5 on
unfoldable pub distinct_verdict : Bool → Settings → List PlineVertex → Verdict
distinct_verdict closed σ vs = refuse Repeated at first_of (repeat_tests closed vs) else finite_verdict (drawing_of closed σ vs)

-- from No. 4 on, which is given where the room does not fit; an offset of zero copies the source
unfoldable pub roomy_verdict : Bool → Bool → Settings → List PlineVertex → Verdict
roomy_verdict fits closed σ vs =
    when not fits give refused NoRoom else
    when eq σ.offset zero give drawn (copied closed vs) else
    distinct_verdict closed σ vs

-- from No. 2 on; fewer than two vertices draw nothing. `fits` says of a number of places whether that many fit.
unfoldable pub verdict_of : (ℕ → Bool) → Bool → Settings → List PlineVertex → Verdict
verdict_of fits closed σ vs =
    when ltb 4096 (length vs) give refused TooMany else
    refuse BadNumber at first_of (number_tests vs σ) else
    when ltb (length vs) 2 give drawn nothing else
    roomy_verdict (fits (room_for σ.corners closed (length vs))) closed σ vs
