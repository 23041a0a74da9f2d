-- The turn after which a walk has come to its first segment, and any other. Assumes nothing.
use mathlib.Core.Path.{◌≡◌, refl, ap}
use mathlib.Core.Bool.{Bool}
use Prim.Native.Nat.{ℕ, zero, suc, ◌-◌}
use native.Mathlib.Omega.{arith}
use Rattle.moves.specs.declared.Pen.{Pen}
use Rattle.walk.specs.InnerSteps.{Standing, Stood, entering, after_turn}

pub enters : (closed : Bool) (pen : Pen) (n : ℕ) (w : Standing) → n ≡ 1 → after_turn closed pen n w ≡ entering closed w
unfolding after_turn
enters closed pen zero w h = absurd (omega arith)
enters closed pen (suc zero) w h = refl
enters closed pen (suc (suc n)) w h = absurd (omega arith)

pub goes_on : (closed : Bool) (pen : Pen) (n : ℕ) (w : Standing) → (n ≡ 1 → ⊥) → ◌≡◌ {A = Stood} (record { walker = w; pen = pen; leading = n - 1 }) (after_turn closed pen n w)
unfolding after_turn
goes_on closed pen zero w h = refl
goes_on closed pen (suc zero) w h = absurd (h refl)
goes_on closed pen (suc (suc n)) w h =
    let e : suc (suc n) - 1 ≡ suc n = omega arith in
    ap (λ (m : ℕ). record { walker = w; pen = pen; leading = m }) e
