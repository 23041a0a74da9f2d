-- `segment_of` meets its contract. Assumes nothing.
use native.Mathlib.Omega.{arith}
use Rattle.words.proofs.Reading.{big_endian_small}
use Rattle.why_reply.proofs.segment_of.Goals as goal

pub overflow_cast-result : goal.overflow_cast-result
overflow_cast-result c =
    let bytes = c.args.bytes.now in
    let small = big_endian_small bytes (λ i. omega (arith, c.type_inv.bytes i)) 0 4 in
    omega (arith, c.big_endian.ensures)
