-- `put_origins` meets its contract. Assumes nothing.
use Rattle.packed.proofs.Writing.{whole}
use Rattle.packed.proofs.text.put_origins.Goals as goal

pub returns : goal.returns
returns c =
    let t = whole c.origins.ensures c.new-text.ensures.at c.new-text.ensures.bytes c.len.ensures in
    record {
      prefix_len = t.0;
      value = t.1.0;
      out_after = t.1.1;
    }
