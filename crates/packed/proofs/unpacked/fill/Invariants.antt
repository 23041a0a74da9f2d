-- `fill` meets its contract. Assumes nothing.
use mathlib.Core.Path.{◌≡◌}
use lib.ListN.{take}
use Rattle.packed.specs.Packed.{numbers_of}
use Rattle.packed.proofs.unpacked.fill.Given as goal

abbrev pub invariant-loop-k : goal.invariant-loop-k
invariant-loop-k l = take l.k l.numbers ≡ numbers_of l.bytes l.k
