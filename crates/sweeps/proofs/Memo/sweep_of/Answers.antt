-- `Memo::sweep_of` meets its contract. Assumes nothing.
use mathlib.Core.Path.{sym, subst}
use lib.Dec.{T}
use lib.ListN.{get_or}
use Rattle.sweeps.proofs.Slots.{found}
use Rattle.sweeps.proofs.Memo.sweep_of.Goals as goal

pub returns-then-kept-bits : goal.returns-then-kept-bits
returns-then-kept-bits g c =
    -- owning an `f64` tells that the format holds it
    found (get_or c.args.self.now.slots c.slot.result c.index-self-slot.result) _ (subst T (sym c.well_formed.1.0.1) tt) c.bits_of-bits.ensures c.if-kept-bits.true
