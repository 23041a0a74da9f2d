-- `compare::count_entries` meets its contract. Assumes nothing.
use mathlib.Core.Path.{◌≡◌}
use Prim.Native.Nat.{◌≤◌}
use lib.ListN.{length}
use Rattle.compare.specs.Compare.{points_of, entries_to}
use Rattle.compare.proofs.count_entries.Given as goal

abbrev pub invariant-loop-k : goal.invariant-loop-k
invariant-loop-k l = (l.k ≤ l.most) × ((l.count ≡ length (entries_to (points_of l.a) l.a.flags (points_of l.b) l.b.flags l.k)) × (l.count ≤ l.k))
