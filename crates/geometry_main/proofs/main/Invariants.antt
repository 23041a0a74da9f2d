-- The rows are counted up to the bound. Assumes nothing.
use Prim.Native.Nat.{◌≤◌, ◌-◌}
use Rattle.geometry_main.proofs.main.Given as goal

abbrev pub invariant-loop : goal.invariant-loop
invariant-loop l = l.counter ≤ 4096

abbrev pub decreases-loop : goal.decreases-loop
decreases-loop l = 4096 - l.counter
