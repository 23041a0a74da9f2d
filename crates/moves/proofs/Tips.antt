-- The connectors of a join: what holds of no move to a tip and, where the join has one, of the move to it, holds of them (`either_tip`). Assumes nothing.
use mathlib.Core.Path.{◌≡◌, refl, sym, ap, ◌∙◌}
use mathlib.Core.Logic.{⊎_elim}
use mathlib.Core.List.Memᴰ
use mathlib.Core.List.{List, [], ◌∷◌, ◌++◌, Memᴰ}
use mathlib.Core.Bool.{Bool, true, false, false≢true}
use Prim.Native.Nat.{ℕ}
use Rattle.floats.specs.Choice.{when◌give◌else◌}
use Rattle.floats.proofs.Choice.{yes, no}
use Rattle.joins.specs.declared.JoinCause.{JoinCause}
use Rattle.joins.specs.declared.JoinCause.TheVariants.{Coincident, Met, OuterTurn, OuterPoint, Reversal, CollapsedSide, NoMeeting, CandidatesMissed, ZeroTangent, SameDirection}
use Rattle.joins.specs.declared.JoinBoundary.{JoinBoundary}
use Rattle.joins.specs.Corner.{is_pointed}
use Rattle.moves.specs.declared.Move.{Move}
use Rattle.moves.specs.declared.Origin.TheVariants.{Connector}
use Rattle.moves.specs.Reason.{connector_reason}
use Rattle.moves.specs.Made.{connector_move, tip_move, tip_moves, connector_moves}
use Rattle.moves.specs.InnerSteps.{tip_before, tip_first}

module _ (i : ℕ) (j : JoinBoundary) where
  pub either_tip : (P : List Move → Type 0) → (is_pointed j.cause ≡ false → P []) → (is_pointed j.cause ≡ true → P (tip_move i j ∷ [])) → P (tip_moves i j)
  unfolding tip_moves
  either_tip P none some = by (is_pointed j.cause) refl
    where
      by : (t : Bool) → is_pointed j.cause ≡ t → P (when t give tip_move i j ∷ [] else [])
      by true e = unfold when◌give◌else◌ in some e
      by false e = unfold when◌give◌else◌ in none e

  -- where there is none
  pub no-tip : is_pointed j.cause ≡ false → connector_moves i j ≡ connector_move i j ∷ []
  unfolding connector_moves
  no-tip n = ap (λ (ms : List Move). ms ++ connector_move i j ∷ []) (either_tip (λ (ms : List Move). ms ≡ []) (λ e. refl) (λ e. absurd (false≢true (sym n ∙ e))))

  -- each of them is its segment's, and has the join's reason
  pub connector_facts : (m : Move) → Memᴰ m (connector_moves i j) → (m.origin ≡ Connector (record { 0 = i })) × (m.reason ≡ connector_reason j.cause)
  unfolding connector_moves connector_move tip_move
  connector_facts =
      either_tip (λ (ms : List Move). (m : Move) → Memᴰ m (ms ++ connector_move i j ∷ []) → (m.origin ≡ Connector (record { 0 = i })) × (m.reason ≡ connector_reason j.cause))
      (λ t. last) (λ t m h. ⊎_elim (λ (q : m ≡ tip_move i j). (ap (λ (x : Move). x.origin) q, ap (λ (x : Move). x.reason) q)) (λ r. last m r) (Memᴰ.cases_cons h))
    where
      last : (m : Move) → Memᴰ m (connector_move i j ∷ []) → (m.origin ≡ Connector (record { 0 = i })) × (m.reason ≡ connector_reason j.cause)
      last m h = ⊎_elim (λ (q : m ≡ connector_move i j). (ap (λ (x : Move). x.origin) q, ap (λ (x : Move). x.reason) q)) (λ r. absurd (Memᴰ.not-nil r)) (Memᴰ.cases_cons h)

  -- the code's move to a tip
  pub tip-first : tip_first j (connector_move i j) ≡ tip_moves i j
  unfolding tip_first tip_moves tip_move connector_move
  tip-first = refl

pub tip-none : (j : JoinBoundary) (m : Move) → is_pointed j.cause ≡ false → tip_first j m ≡ []
unfolding tip_first
tip-none j m e = sym (no _ _ _ e refl)

pub tip-some : (j : JoinBoundary) (m : Move) → is_pointed j.cause ≡ true → tip_first j m ≡ tip_before m j.tip ∷ []
unfolding tip_first
tip-some j m e = sym (yes _ _ _ e refl)

pub pointed-cause : (c : JoinCause) → is_pointed c ≡ true → c ≡ OuterPoint
pointed-cause Coincident e = absurd (false≢true e)
pointed-cause Met e = absurd (false≢true e)
pointed-cause OuterTurn e = absurd (false≢true e)
pointed-cause OuterPoint e = refl
pointed-cause Reversal e = absurd (false≢true e)
pointed-cause CollapsedSide e = absurd (false≢true e)
pointed-cause NoMeeting e = absurd (false≢true e)
pointed-cause CandidatesMissed e = absurd (false≢true e)
pointed-cause ZeroTangent e = absurd (false≢true e)
pointed-cause SameDirection e = absurd (false≢true e)
