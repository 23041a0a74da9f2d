-- `meetings::squared_distances_equal` meets its contract. Assumes nothing.
use mathlib.Core.Path.{refl}
use Rattle.floats.proofs.Choice.{or_yes, or_no}
use Rattle.meetings.specs.Params.{squared_distances_equal}
use Rattle.meetings.proofs.squared_distances_equal.Goals as goal

pub returns-then-sum-eps_squared : goal.returns-then-sum-eps_squared
unfolding squared_distances_equal
returns-then-sum-eps_squared c = or_yes _ _ c.if-sum-eps_squared.true refl

pub returns : goal.returns
unfolding squared_distances_equal
returns c = or_no _ _ c.if-sum-eps_squared.false refl
