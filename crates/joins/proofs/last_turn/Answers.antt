-- `joins::last_turn` meets its contract. Assumes nothing.
use Rattle.floats.proofs.Same.{choices}
use Rattle.joins.specs.InnerSteps.{last_turn}
use Rattle.joins.proofs.last_turn.Goals as goal

pub returns-then-alignment : goal.returns-then-alignment
unfolding last_turn
returns-then-alignment c = search choices depth 10 fits 20000

pub returns-then-turn-incoming_len_sq : goal.returns-then-turn-incoming_len_sq
unfolding last_turn
returns-then-turn-incoming_len_sq c = search choices depth 10 fits 20000

pub returns-then-offset-turn : goal.returns-then-offset-turn
unfolding last_turn
returns-then-offset-turn c = search choices depth 10 fits 20000

pub returns : goal.returns
unfolding last_turn
returns c = search choices depth 10 fits 20000
