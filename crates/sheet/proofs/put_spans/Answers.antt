-- `sheet::put_spans` meets its contract. Assumes nothing.
use Rattle.sheet.proofs.Origins.{origin-stored, spanned_none, spanned_turn, spanned_done}
use Rattle.sheet.proofs.put_spans.Goals as goal

pub loop-k-init : goal.loop-k-init
loop-k-init c = spanned_none _ _

pub loop-k-preserved : goal.loop-k-preserved
loop-k-preserved c =
    let l = c.loop-k in
    spanned_turn _ _ _ l.invariant c.loop-k-test.true c.requires.0 (origin-stored _ _ _ c.code.ensures)

pub returns : goal.returns
returns c = spanned_done _ _ c.loop-k.invariant c.loop-k-test.false
