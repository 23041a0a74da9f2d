-- `joins::tangent_turn` meets its contract. Assumes nothing.
use mathlib.Core.Path.{refl}
use Rattle.floats.proofs.Choice.{yes, no}
use Rattle.floats.proofs.Same.{tested}
use Rattle.joins.specs.Join.{tangent_turn}
use Rattle.joins.specs.InnerSteps.{last_turn}
use Rattle.joins.proofs.tangent_turn.Goals as goal

pub returns-then-either_at_most : goal.returns-then-either_at_most
unfolding tangent_turn last_turn
returns-then-either_at_most c = yes _ _ _ (tested c.if-either_at_most.true (simp (c.either_at_most.ensures, c.length_squared-outgoing_len_sq.ensures, c.length_squared-incoming_len_sq.ensures))) refl

pub returns : goal.returns
unfolding tangent_turn last_turn
returns c = no _ _ _ (tested c.if-either_at_most.false (simp (c.either_at_most.ensures, c.length_squared-outgoing_len_sq.ensures, c.length_squared-incoming_len_sq.ensures))) (simp (c.last_turn.ensures, c.dot-alignment.ensures, c.perp_dot-turn.ensures, c.length_squared-outgoing_len_sq.ensures, c.length_squared-incoming_len_sq.ensures))
