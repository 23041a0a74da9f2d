-- `sweeps` meets its contract. Assumes nothing.
use mathlib.Core.Path.{ap, ◌∙◌}
use native.Mathlib.Omega.{arith}
use borrow.Author.Rules.{rules}
use lib.Ieee.{nan}
use Rattle.angles.specs.Angle.{sweep_of}
use Rattle.angles.specs.InnerSteps.{reduced, sweep_by}
use Rattle.angles.proofs.Mapped.{mapped_to, filled}
use Rattle.angles.proofs.Steps.{atan_at, sweep_steps}
use Rattle.angles.proofs.sweeps.Goals as goal

pub returns : goal.returns
returns g c =
    let small = mapped_to reduced (omega arith) c.map.ensures.items (λ p q x y k. search rules) in
    filled c.args.bulges nan sweep_of (omega arith) c.from_fn.ensures.items (λ p q i y k. search rules)
    (λ i y within k. k.met.1 ∙ ap (sweep_by _) (atan_at reduced _ nan i small c.small_atans-atans.ensures within) ∙ sweep_steps _)
