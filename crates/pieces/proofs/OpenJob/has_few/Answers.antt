-- `pieces::OpenJob::has_few` meets its contract. Assumes nothing.
use native.Mathlib.Omega.{arith}
use Rattle.job.proofs.Ends.{moves-most}
use Rattle.sheet.proofs.Products.{product_most}
use Rattle.pieces.proofs.Records.{few-is}
use Rattle.pieces.proofs.OpenJob.has_few.Goals as goal

pub overflow_mul-result : goal.overflow_mul-result
overflow_mul-result c =
    let m = c.moves_a_segment-moves in
    let l = c.less_two in
    let three = moves-most c.is_pointed.result in
    omega (arith, c.requires, product_most m.result 3 l.result (omega (arith, m.ensures, three)), l.ensures)

pub returns : goal.returns
returns c = few-is _ c.is_pointed.ensures c.moves_a_segment-moves.ensures c.less_two.ensures
