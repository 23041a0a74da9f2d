-- The way of an accepted job of two vertices or more with a nonzero offset: its numbers are good, and it has a drawing whose numbers are finite (`went`). Assumes nothing.
use mathlib.Core.Path.{◌≡◌, sym, ap, ◌∙◌}
use mathlib.Core.Bool.{true}
use Prim.Native.Nat.{◌≤◌}
use native.Mathlib.Omega.{arith}
use lib.Dec.{T}
use lib.Ieee.{eq}
use Rattle.floats.specs.Binary64.{zero}
use Rattle.moves.specs.Drawing.{all_finite}
use Rattle.job.specs.Verdict.{drawn}
use Rattle.job.specs.Job.{placed}
use Rattle.refusals.specs.Table.{number}
use Rattle.job.specs.Rows.{Job, outcome, count, places, Numbers}
use Rattle.job.proofs.Ways.{Way, ragged, many, bad, few, tight, copy, repeated, endless, whole, leads_to, way, ends, drawing}

pub record Went (j : Job) : Type 0 where
  pub numbers : Numbers j
  pub finite : all_finite (drawing j).vertices ≡ true
  pub is : outcome j ≡ placed (places j) (drawn (drawing j)) j.buffers

by_way : (j : Job) (w : Way j) → leads_to j w ≡ outcome j → number (leads_to j w).answer ≡ 0 → (T (eq j.settings.offset zero) → ⊥) → 2 ≤ count j → Went j
by_way j (ragged r) e h n t = absurd (omega arith)
by_way j (many r) e h n t = absurd (omega arith)
by_way j (bad k r) e h n t = absurd (omega arith)
by_way j (few g l) e h n t = absurd (omega arith)
by_way j (tight r) e h n t = absurd (omega arith)
by_way j (copy r z) e h n t = absurd (n z)
by_way j (repeated k r) e h n t = absurd (omega arith)
by_way j (endless r) e h n t = absurd (omega arith)
by_way j (whole d f) e h n t = record { numbers = d.roomy.numbers; finite = f; is = sym e }

pub went : (j : Job) → number (outcome j).answer ≡ 0 → (T (eq j.settings.offset zero) → ⊥) → 2 ≤ count j → Went j
went j h = by_way j (way j) (ends j (way j)) (ap (λ o. number o.answer) (ends j (way j)) ∙ h)
