-- `tan_eighth` meets its contract. Assumes nothing.
use Rattle.angles.specs.Angle.{tan_eighth}
use Rattle.angles.proofs.Tables.{sin_bits_lem, cos_bits_lem}
use Rattle.angles.proofs.tan_eighth.Goals as goal

pub returns : goal.returns
unfolding tan_eighth
returns c = simp (c.horner_walk-c.ensures, c.horner_walk.ensures, sin_bits_lem, cos_bits_lem)
