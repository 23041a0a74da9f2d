-- `joins::classify_join` meets its contract. Assumes nothing.
use mathlib.Core.Path.{refl}
use Rattle.floats.proofs.Choice.{yes, no}
use Rattle.floats.proofs.Same.{tested}
use Rattle.joins.specs.Join.{turn_of}
use Rattle.joins.proofs.classify_join.Goals as goal

pub returns-then-fuzzy_eq_eps : goal.returns-then-fuzzy_eq_eps
unfolding turn_of
returns-then-fuzzy_eq_eps c = yes _ _ _ (tested c.if-fuzzy_eq_eps.true (simp (c.fuzzy_eq_eps.ensures, c.start.ensures, c.end.ensures))) refl

pub end_tangent-requires : goal.end_tangent-requires
unfolding turn_of
end_tangent-requires c = c.requires.0

pub start_tangent-requires : goal.start_tangent-requires
unfolding turn_of
start_tangent-requires c = c.requires.1

pub returns : goal.returns
unfolding turn_of
returns c = no _ _ _ (tested c.if-fuzzy_eq_eps.false (simp (c.fuzzy_eq_eps.ensures, c.start.ensures, c.end.ensures))) (simp (c.tangent_turn.ensures, c.start_tangent.ensures, c.end_tangent.ensures))
