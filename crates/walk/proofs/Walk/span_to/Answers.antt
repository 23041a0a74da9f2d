-- `walk::Walk::span_to` meets its contract. Assumes nothing.
use Rattle.moves.specs.Made.{span_move}
use Rattle.walk.proofs.Walk.span_to.Goals as goal

pub returns : goal.returns
unfolding span_move
returns c = simp (c.bulging.ensures, c.span_bulge.ensures, c.straight_span-span.ensures)
