-- `layers::layers_angle` meets its contract. Assumes nothing.
use Rattle.layers.proofs.layers_angle.Goals as goal

pub returns : goal.returns
returns c = rw (← c.vector.ensures, ← c.vector-2.ensures) c.angle.ensures
