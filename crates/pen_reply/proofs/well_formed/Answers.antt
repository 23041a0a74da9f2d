-- `well_formed` meets its contract. Assumes nothing.
use mathlib.Core.Path.{refl}
use borrow.Author.Tests.{eq-eqb, ne_eqb}
use Rattle.floats.proofs.Choice.{and_no, and_yes}
use Rattle.pen_reply.specs.Pen.{well_formed}
use Rattle.pen_reply.proofs.well_formed.Goals as goal

pub returns-then-bytes-ne25 : goal.returns-then-bytes-ne25
unfolding well_formed
returns-then-bytes-ne25 c = and_no _ _ (ne_eqb _ _ c.if-bytes-ne25.true) refl

pub returns : goal.returns
unfolding well_formed
returns c = and_yes _ _ (eq-eqb _ _ c.if-bytes-ne25.false) (rw c.big_endian.ensures)
