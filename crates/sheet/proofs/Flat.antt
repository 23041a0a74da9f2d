-- Vertices laid flat: one row after another, and how many numbers they are. Assumes nothing.
use mathlib.Core.Path.{◌≡◌, refl, ap}
use mathlib.Core.List.{List, [], ◌∷◌, ◌++◌}
use Prim.Native.Nat.{◌*◌}
use native.Mathlib.Omega.{arith}
use lib.ListN.{length}
use lib.Ieee.{Float}
use Rattle.segments.specs.declared.PlineVertex.{PlineVertex}
use Rattle.sheet.specs.Buffers.{flat}

pub flat_append : (vs ws : List PlineVertex) → flat (vs ++ ws) ≡ flat vs ++ flat ws
unfolding flat
flat_append [] ws = refl
flat_append (v ∷ vs) ws = ap (λ (t : List Float). v.x ∷ v.y ∷ v.bulge ∷ t) (flat_append vs ws)

pub length-flat : (vs : List PlineVertex) → length (flat vs) ≡ 3 * length vs
unfolding flat
length-flat [] = refl
length-flat (v ∷ vs) = omega (arith, length-flat vs)
