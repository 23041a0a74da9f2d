-- No two different outcomes of a job meet the contract of `create_raw_offset`, nor of its forms in columns and with pointed corners. Assumes nothing.
use mathlib.Core.Path.{◌≡◌, sym, ap, ◌∙◌}
use mathlib.Core.List.{List}
use Prim.Native.Nat.{ℕ}
use Rattle.std.specs.Prelude.{Result}
use Rattle.source.specs.Source.{Lent}
use Rattle.moves.specs.Origins.{origins_in}
use Rattle.moves.proofs.Origins.{origins-only}
use Rattle.sheet.specs.Buffers.{buffers}
use Rattle.moves.specs.declared.RawOffsetResult.{RawOffsetResult}
use Rattle.refusals.specs.declared.Refusal.{Refusal}
use Rattle.job.specs.Job.{Outcome, ending}
use Rattle.job.specs.Rows.{Job, outcome}

-- an answer, and what the buffers hold at exit, meet the contract; the vertices are in the one list of rows, or in three columns
abbrev pub Meets : Job → Result RawOffsetResult Refusal → Lent → List ℕ → List ℕ → List ℕ → Type 0
Meets j r v f i o = ending r (buffers v f i (origins_in o)) ≡ outcome j

pub unique : (j : Job) {r r' : Result RawOffsetResult Refusal} {v v' : Lent} {f f' i i' : List ℕ} (o o' : List ℕ) → Meets j r v f i o → Meets j r' v' f' i' o'
    → (r ≡ r') × (v ≡ v') × (f ≡ f') × (i ≡ i') × (o ≡ o')
unique j o o' p q =
    let e = p ∙ sym q in (
      ap (λ (x : Outcome). x.answer) e,
      ap (λ (x : Outcome). x.buffers.vertices) e,
      ap (λ (x : Outcome). x.buffers.flags) e,
      ap (λ (x : Outcome). x.buffers.indexes) e,
      origins-only o o' (ap (λ (x : Outcome). x.buffers.origins) e),
    )
