-- `small_atans` meets its contract. Assumes nothing.
use mathlib.Core.Path.{◌∙◌}
use lib.Ieee.{Float}
use native.Mathlib.Omega.{arith}
use borrow.Author.Rules.{rules}
use Rattle.std.proofs.lemmas.List.{map-id}
use Rattle.angles.specs.declared.Halving.{Halving}
use Rattle.angles.specs.Angle.{atan_by_eighth}
use Rattle.angles.proofs.Halved.{as_many, small_atans}
use Rattle.angles.proofs.Mapped.{mapped, mapped_to}
use Rattle.angles.proofs.small_atans.Goals as goal

pub returns : goal.returns
returns g c =
    mapped_to (λ (h : Halving). atan_by_eighth h.x) (omega (arith, as_many _ _ c.halve_all.ensures, as_many _ _ c.halve_all-2.ensures, as_many _ _ c.halve_all-3.ensures)) c.map.ensures.items (λ p q x y k. search rules)
    ∙ small_atans _ _ _ _ _
    (mapped (λ (h : Halving). h.x) (λ (x : Float). x) (omega arith) c.map-halvings.ensures.items (λ p q x y k. search rules) ∙ map-id _)
    c.halve_all.ensures
    c.halve_all-2.ensures
    c.halve_all-3.ensures
