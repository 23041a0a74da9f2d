-- `number_at` meets its contract. Assumes nothing.
use Rattle.words.specs.Words.{number_at}
use Rattle.words.proofs.number_at.Goals as goal

pub returns : goal.returns
unfolding number_at
returns c = cc
