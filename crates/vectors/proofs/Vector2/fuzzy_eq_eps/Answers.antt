-- `vectors::Vector2::fuzzy_eq_eps` meets its contract. Assumes nothing.
use Rattle.floats.proofs.Choice.{branches}
use Rattle.vectors.specs.Plane.{near}
use Rattle.vectors.proofs.Vector2.fuzzy_eq_eps.Goals as goal

pub returns-then-fuzzy_eq_eps : goal.returns-then-fuzzy_eq_eps
unfolding near
returns-then-fuzzy_eq_eps c = search branches

pub returns-else-fuzzy_eq_eps : goal.returns-else-fuzzy_eq_eps
unfolding near
returns-else-fuzzy_eq_eps c = search branches
