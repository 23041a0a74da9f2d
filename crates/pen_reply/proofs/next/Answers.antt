-- `next` meets its contract. Assumes nothing.
use Rattle.packed.proofs.Writing.{whole}
use Rattle.pen_reply.proofs.next.Goals as goal

pub returns : goal.returns
returns c =
    let step = c.next_on-step.ensures in
    let t = whole step.text c.new-out.ensures.at c.new-out.ensures.bytes c.len.ensures in
    record {
      prefix_len = t.0;
      written_value = t.1.0;
      text_after = t.1.1;
      bytes_value = step.step;
    }
