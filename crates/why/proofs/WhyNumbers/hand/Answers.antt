-- `why::WhyNumbers::hand` meets its contract. Assumes nothing.
use mathlib.Core.Path.{refl}
use Rattle.why.specs.Handed.{handed_of}
use Rattle.why.proofs.WhyNumbers.hand.Goals as goal

pub returns : goal.returns
unfolding handed_of
returns c = refl
