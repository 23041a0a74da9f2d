-- `Memo::keep` meets its contract. Assumes nothing.
use mathlib.Core.Path.{sym, subst, ◌∙◌}
use lib.Dec.{T}
use Rattle.sweeps.proofs.Slots.{sweep_by_bits}
use Rattle.sweeps.proofs.Memo.keep.Goals as goal

pub invariant_of-self : goal.invariant_of-self
invariant_of-self c =
    -- owning an `f64` tells that the format holds it
    record { swept = c.requires ∙ sym (sweep_by_bits _ (subst T (sym c.well_formed.1.0.1) tt) c.bits_of-bits.ensures) }
