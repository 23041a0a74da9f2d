-- How many segments v vertices have, and the place that each leads to. Assumes nothing.
use mathlib.Core.Path.{◌≡◌, refl}
use mathlib.Core.Bool.{Bool, true, false}
use Prim.Native.Nat.{ℕ, ◌+◌, ◌-◌, ◌≤◌, ◌<◌}
use native.Mathlib.Omega.{arith}
use borrow.Author.Tests.{ltb-true, ltb-false, lt-ltb, le-ltb}
use lib.Dec.{ltb}
use Rattle.floats.specs.Choice.{when◌give◌else◌}
use Rattle.source.specs.Source.{segments_of}
use Rattle.source.specs.InnerSteps.{next_of}

pub segments-closed : (v : ℕ) → 2 ≤ v → segments_of true v ≡ v
unfolding segments_of when◌give◌else◌
segments-closed v h = rw (le-ltb v 2 h)

pub segments_open : (v : ℕ) → 2 ≤ v → segments_of false v ≡ v - 1
unfolding segments_of when◌give◌else◌
segments_open v h = rw (le-ltb v 2 h)

pub segments-none : (closed : Bool) (v : ℕ) → v < 2 → segments_of closed v ≡ 0
unfolding segments_of when◌give◌else◌
segments-none closed v h = rw (lt-ltb v 2 h)

pub segments-most : (closed : Bool) (v : ℕ) → segments_of closed v ≤ v
segments-most closed v = by (ltb v 2) refl
  where
    two : (closed : Bool) → 2 ≤ v → segments_of closed v ≤ v
    two true h = rw (segments-closed v h) (omega arith)
    two false h = rw (segments_open v h) (omega arith)

    by : (b : Bool) → ltb v 2 ≡ b → segments_of closed v ≤ v
    by true e = rw (segments-none closed v (ltb-true v 2 e)) (omega arith)
    by false e = two closed (ltb-false v 2 e)

pub next_on : (v k : ℕ) → k + 1 < v → next_of v k ≡ k + 1
unfolding next_of when◌give◌else◌
next_on v k h = rw (lt-ltb (k + 1) v h)

pub next_back : (v k : ℕ) → v ≤ k + 1 → next_of v k ≡ 0
unfolding next_of when◌give◌else◌
next_back v k h = rw (le-ltb (k + 1) v h)
