-- `why::ask_good` meets its contract. Assumes nothing.
use mathlib.Core.Path.{sym, ◌∙◌}
use Rattle.why.proofs.Whole.{copy-good, repeated-good, drawn-good}
use Rattle.why.proofs.ask_good.Goals as goal

pub returns-then-settings : goal.returns-then-settings
returns-then-settings c =
    copy-good _ _ _ _ c.if-settings.true (c.ask_copy.ensures ∙ rw (c.segment_count.ensures, c.requires.long))

pub first_repeated-requires : goal.first_repeated-requires
first_repeated-requires c = let pre = c.requires in (rw pre.long at pre.two, rw pre.long at pre.most)

pub returns-in-Some : goal.returns-in-Some
returns-in-Some c =
    repeated-good _ _ _ _ c.if-settings.false _ (sym c.first_repeated.ensures ∙ c.in-Some.is)

pub returns-then-closed : goal.returns-then-closed
returns-then-closed c =
    rw c.if-closed.true (drawn-good _ _ _ _ c.if-settings.false (rw c.if-closed.true at (sym c.first_repeated.ensures ∙ c.in_default.is)) c.ask_closed.ensures)

pub returns : goal.returns
returns c =
    rw c.if-closed.false (drawn-good _ _ _ _ c.if-settings.false (rw c.if-closed.false at (sym c.first_repeated.ensures ∙ c.in_default.is)) c.ask_open.ensures)
