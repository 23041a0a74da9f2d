-- `joins::bulge_size` meets its contract. Assumes nothing.
use Rattle.floats.proofs.Choice.{yes, no}
use Rattle.joins.specs.Connector.{bulge_size}
use Rattle.joins.proofs.bulge_size.Goals as goal

pub returns-then-cos : goal.returns-then-cos
unfolding bulge_size
returns-then-cos c = yes _ _ _ c.if-cos.true (simp c.sqrt.ensures)

pub returns : goal.returns
unfolding bulge_size
returns c = no _ _ _ c.if-cos.false (simp c.sqrt-2.ensures)
