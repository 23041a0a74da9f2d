-- `layers::layers_roots_near` meets its contract. Assumes nothing.
use mathlib.Core.Path.{ap}
use mathlib.Core.List.{[], ◌∷◌}
use Rattle.floats.specs.declared.Roots.{Roots}
use Rattle.layers.proofs.layers_roots_near.Goals as goal

pub returns : goal.returns
returns c = ap (λ (r : Roots). r.first ∷ r.second ∷ []) c.roots_near-roots.ensures
