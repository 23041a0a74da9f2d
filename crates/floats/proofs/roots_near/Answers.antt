-- `floats::roots_near` meets its contract. Assumes nothing.
use Rattle.std.proofs.Common.{◌≡◌}
use lib.Ieee.{Float}
use Rattle.floats.specs.declared.Roots.{Roots}
use Rattle.floats.proofs.roots_near.Goals as goal

both : {r s t u : Float} → r ≡ t → s ≡ u → ◌≡◌ {A = Roots} (record { first = r; second = s }) (record { first = t; second = u })
both p q = λ i. record { first = p i; second = q i }

pub returns : goal.returns
returns c = both c.sqrt-first.ensures c.sqrt-second.ensures
