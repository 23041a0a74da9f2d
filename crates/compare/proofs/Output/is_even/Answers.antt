-- `compare::Output::is_even` meets its contract. Assumes nothing.
use mathlib.Core.Path.{sym, ap, ◌∙◌}
use Rattle.floats.proofs.Choice.{and_yes, and_no}
use Rattle.compare.specs.Compare.{is_even}
use Rattle.compare.proofs.Output.is_even.Goals as goal

pub returns-then-is_whole : goal.returns-then-is_whole
unfolding is_even
returns-then-is_whole c =
    and_yes _ _ (sym c.is_whole.ensures ∙ c.if-is_whole.true) (rw (c.segment_count.ensures, c.vertices.ensures, ← c.self.view_is)) ∙ ap is_even c.self.view_is

pub returns-else-is_whole : goal.returns-else-is_whole
unfolding is_even
returns-else-is_whole c = and_no _ _ (sym c.is_whole.ensures ∙ c.if-is_whole.false) c.if-is_whole.false ∙ ap is_even c.self.view_is
