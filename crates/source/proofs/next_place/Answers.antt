-- `source::next_place` meets its contract. Assumes nothing.
use mathlib.Core.Path.{refl}
use borrow.Author.Tests.{lt-ltb, le-ltb}
use borrow.Author.Rules.{rules}
use Rattle.floats.proofs.Choice.{yes, no}
use Rattle.source.specs.InnerSteps.{next_of}
use Rattle.source.proofs.next_place.Goals as goal

pub overflow_add-k : goal.overflow_add-k
unfolding next_of
overflow_add-k c = search rules

pub overflow_add-result : goal.overflow_add-result
unfolding next_of
overflow_add-result c = search rules

pub returns-then-k-v : goal.returns-then-k-v
unfolding next_of
returns-then-k-v c = (yes _ _ _ (lt-ltb _ _ c.if-k-v.true) refl, search rules)

pub returns : goal.returns
unfolding next_of
returns c = (no _ _ _ (le-ltb _ _ c.if-k-v.false) refl, search rules)
