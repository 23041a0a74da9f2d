-- `meetings::is_far_past` meets its contract. Assumes nothing.
use mathlib.Core.Path.{refl}
use Rattle.meetings.specs.Params.{far_past}
use Rattle.meetings.proofs.is_far_past.Goals as goal

pub returns : goal.returns
unfolding far_past
returns c = refl
