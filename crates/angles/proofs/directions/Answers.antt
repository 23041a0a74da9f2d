-- `directions` meets its contract. Assumes nothing.
use mathlib.Core.Path.{ap, ◌∙◌}
use native.Mathlib.Omega.{arith}
use borrow.Author.Rules.{rules}
use lib.Ieee.{nan}
use Rattle.vectors.specs.declared.Vector2.{Vector2}
use Rattle.angles.specs.Angle.{direction_of}
use Rattle.angles.specs.InnerSteps.{slope, direction_by}
use Rattle.angles.proofs.Mapped.{mapped_to, filled}
use Rattle.angles.proofs.Steps.{atan_at, direction_small}
use Rattle.angles.proofs.directions.Goals as goal

pub returns : goal.returns
returns g c =
    let steep = λ (v : Vector2). slope v.x v.y in
    let none : Vector2 = record { x = nan; y = nan } in
    let small = mapped_to steep (omega arith) c.map.ensures.items (λ p q x y k. search rules) in
    filled c.args.vectors none (λ (v : Vector2). direction_of v.x v.y) (omega arith) c.from_fn.ensures.items (λ p q i y k. search rules)
    (λ i y within k. k.met.1 ∙ ap (direction_by _ _) (atan_at steep _ none i small c.small_atans-atans.ensures within) ∙ direction_small _ _)
