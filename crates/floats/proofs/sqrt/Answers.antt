-- `floats::sqrt` meets its contract. Assumes nothing.
use Rattle.std.proofs.Common.{T, sym, subst, ◌∙◌}
use Rattle.floats.proofs.Native.{native_sqrt}
use Rattle.floats.proofs.sqrt.Goals as goal

pub returns : goal.returns
returns c = c.sqrt.ensures.value ∙ native_sqrt c.args.x (subst T (sym c.before.well_formed.0.1) tt)
