-- The closure of `directions` that makes each angle meets its contract, where the arc tangent that it takes stands at the same place as the vector. Assumes nothing.
use mathlib.Core.Path.{◌≡◌, subst}
use mathlib.Core.List.{List}
use Prim.Native.Nat.{ℕ}
use native.Mathlib.Omega.{arith}
use lib.ListN.{get_or}
use lib.Ieee.{Float, nan}
use Rattle.vectors.specs.declared.Vector2.{Vector2}
use Rattle.angles.specs.InnerSteps.{direction_by, direction_at}
use Rattle.angles.proofs.fn.directions.from_fn.Goals as goal

at_place : (vectors : List Vector2) (atans : List Float) (i : ℕ) {j : ℕ} {r : Float} →
    (let v = get_or vectors i (record { x = nan; y = nan }) in r ≡ direction_by v.x v.y (get_or atans j nan)) → j ≡ i → r ≡ direction_at vectors atans i
at_place vectors atans i {j} {r} is same =
    subst (λ (k : ℕ). let v = get_or vectors i (record { x = nan; y = nan }) in r ≡ direction_by v.x v.y (get_or atans k nan)) same is

pub returns : goal.returns
returns g c = at_place c.captures.vectors c.captures.atans c.args.i c.direction_by.ensures (omega arith)
