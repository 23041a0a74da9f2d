-- `pieces::OpenJob::begun` meets its contract. Assumes nothing.
use Rattle.pieces.proofs.Records.{mode_byte}
use Rattle.pieces.proofs.OpenJob.begun.Goals as goal

pub returns : goal.returns
returns c = rw (c.are_pointed.ensures, mode_byte, c.ratio_of.ensures, c.none-course.ensures)
