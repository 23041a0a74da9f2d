-- `meetings::not_seen` meets its contract. Assumes nothing.
use mathlib.Core.Path.{refl}
use Rattle.meetings.specs.InnerSteps.{not_seen}
use Rattle.meetings.proofs.not_seen.Goals as goal

pub returns : goal.returns
unfolding not_seen
returns c = refl
