-- `pieces::OpenJob::is_pointed` meets its contract. Assumes nothing.
use Rattle.pieces.proofs.Records.{mode-is}
use Rattle.pieces.proofs.OpenJob.is_pointed.Goals as goal

pub returns : goal.returns
returns c = mode-is _
