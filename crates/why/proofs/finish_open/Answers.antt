-- `why::finish_open` meets its contract. Assumes nothing.
use mathlib.Core.Path.{refl}
use borrow.Author.Tests.{eq-eqb, ne_eqb}
use Rattle.floats.proofs.Choice.{yes, no}
use Rattle.moves.proofs.Finite.{doubt-more}
use Rattle.why.specs.InnerSteps.{finish_open}
use Rattle.why.proofs.finish_open.Goals as goal

pub returns-then-note-eq0 : goal.returns-then-note-eq0
unfolding finish_open
returns-then-note-eq0 c = yes _ _ _ (eq-eqb _ _ c.if-note-eq0.true) refl

pub returns : goal.returns
unfolding finish_open
returns c =
    no _ _ _ (ne_eqb _ _ c.if-note-eq0.false) (rw (c.finish.ensures, c.doubt.ensures, doubt-more, c.from_vector2-last.ensures))
