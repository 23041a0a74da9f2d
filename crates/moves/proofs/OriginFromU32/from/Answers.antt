-- `moves::OriginFromU32::from` meets its contract. Assumes nothing.
use mathlib.Core.Path.{refl}
use borrow.Author.Tests.{eq-eqb, ne_eqb}
use Rattle.floats.proofs.Choice.{yes, no}
use Rattle.moves.specs.Origins.{origin_of}
use Rattle.moves.proofs.OriginFromU32.from.Goals as goal

pub returns-then-code-eq0 : goal.returns-then-code-eq0
unfolding origin_of
returns-then-code-eq0 c = yes _ _ _ (eq-eqb _ _ c.if-code-eq0.true) refl

pub returns : goal.returns
unfolding origin_of
returns c = no _ _ _ (ne_eqb _ _ c.if-code-eq0.false) refl
