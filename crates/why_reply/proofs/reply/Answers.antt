-- `reply` meets its contract. Assumes nothing.
use Rattle.packed.proofs.Writing.{whole}
use Rattle.why_reply.proofs.reply.Goals as goal

pub returns : goal.returns
returns c =
    let t = whole c.put_reply.ensures c.new-out.ensures.at c.new-out.ensures.bytes c.len.ensures in
    record {
      prefix_len = t.0;
      value = t.1.0;
      text_after = t.1.1;
    }
