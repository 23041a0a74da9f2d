-- `read_output` meets its contract. Assumes nothing.
use native.Mathlib.Omega.{arith}
use Rattle.source.proofs.Segments.{segments-most}
use Rattle.same_reply.proofs.Pairs.{kept_read}
use Rattle.same_reply.proofs.read_output.Goals as goal

pub returns-then-count-gt-VERTICES : goal.returns-then-count-gt-VERTICES
returns-then-count-gt-VERTICES c = record {
  count_value = c.head_of-head.ensures.count_value;
  kept = λ few. absurd (omega arith);
}

pub read_flags-requires : goal.read_flags-requires
read_flags-requires c =
    let h = c.head_of-head.result in
    let most = segments-most h.closed h.count in
    record {
      i_bound = omega arith;
      count_bound = omega arith;
      count_in_bounds = omega arith;
    }

pub returns : goal.returns
returns c =
    let h = c.head_of-head in
    let n = c.read_numbers in
    record {
      count_value = h.ensures.count_value;
      kept = kept_read c.args.text.now c.args.numbers.now h.ensures.count_value h.ensures.closed_value h.ensures.lines_value c.segment_count.ensures (omega arith) c.requires n.ensures c.read_flags.ensures;
    }
