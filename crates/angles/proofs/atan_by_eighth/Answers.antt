-- `atan_by_eighth` meets its contract. Assumes nothing.
use Rattle.angles.specs.Angle.{atan_by_eighth}
use Rattle.angles.proofs.Tables.{atan-bits}
use Rattle.angles.proofs.atan_by_eighth.Goals as goal

pub returns : goal.returns
unfolding atan_by_eighth
returns c = simp (c.horner_walk.ensures, atan-bits)
