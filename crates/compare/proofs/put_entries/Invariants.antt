-- `compare::put_entries` meets its contract. Assumes nothing.
use mathlib.Core.Path.{◌≡◌}
use mathlib.Core.List.{map}
use Prim.Native.Nat.{◌≤◌}
use lib.ListN.{length}
use Rattle.compare.specs.Compare.{points_of, entries_to, number_in, code_in, at_front}
use Rattle.compare.proofs.put_entries.Given as goal

abbrev pub invariant-loop-k : goal.invariant-loop-k
invariant-loop-k l =
    let list = entries_to (points_of l.a) l.a.flags (points_of l.b) l.b.flags l.k in
    ((l.k ≤ l.most) × (l.at ≡ length list)) × (((l.numbers ≡ at_front (map number_in list) l.initial.numbers) × (length l.numbers ≡ length l.initial.numbers)) × ((l.fields ≡ at_front (map code_in list) l.initial.fields) × (length l.fields ≡ length l.initial.fields)))
