-- `settings_in` meets its contract. Assumes nothing.
use mathlib.Core.Path.{◌∙◌}
use borrow.Author.Tests.{eq-eqb, ne_eqb}
use Rattle.floats.proofs.Choice.{yes, no, told}
use Rattle.pen_reply.specs.Pen.{settings_in}
use Rattle.pen_reply.proofs.settings_in.Goals as goal

pub returns-then-big_endian-eq0 : goal.returns-then-big_endian-eq0
unfolding settings_in
returns-then-big_endian-eq0 c = yes _ _ _ (eq-eqb _ _ (told c.big_endian.ensures c.if-big_endian-eq0.true)) (rw (← c.number_at-eps.ensures, ← c.number_at-offset.ensures) c.round.ensures)

pub returns : goal.returns
unfolding settings_in
returns c = no _ _ _ (ne_eqb _ _ (λ z. c.if-big_endian-eq0.false (c.big_endian.ensures ∙ z))) (rw (← c.number_at.ensures, ← c.number_at-eps.ensures, ← c.number_at-offset.ensures) c.pointed.ensures)
