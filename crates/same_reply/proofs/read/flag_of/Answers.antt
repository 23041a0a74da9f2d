-- `read::flag_of` meets its contract. Assumes nothing.
use borrow.Author.Tests.{eq-eqb, ne_eqb}
use mathlib.Core.Path.{refl}
use Rattle.floats.proofs.Choice.{yes, no}
use Rattle.same_reply.specs.Read.{flag_of}
use Rattle.same_reply.proofs.read.flag_of.Goals as goal

pub returns-then-mark-eq33 : goal.returns-then-mark-eq33
unfolding flag_of
returns-then-mark-eq33 c = yes _ _ _ (eq-eqb _ _ c.if-mark-eq33.true) refl

pub returns : goal.returns
unfolding flag_of
returns c = no _ _ _ (ne_eqb _ _ c.if-mark-eq33.false) refl
