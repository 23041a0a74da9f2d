-- `is_printed_in` meets its contract. Assumes nothing.
use mathlib.Core.Path.{◌∙◌}
use lib.ListN.{take}
use Rattle.packed.proofs.Writing.{start}
use Rattle.same_reply.proofs.Equal.{equal_told}
use Rattle.same_reply.proofs.is_printed_in.Goals as goal

pub returns : goal.returns
returns c =
    let s = start c.put_output.ensures c.new-again.ensures.at c.len-n.ensures in
    rw s at (c.eq.ensures ∙ equal_told c.args.text.now (take c.len-n.result c.put_output.new.text.out.now))
