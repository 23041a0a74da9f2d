-- `why::Note::tip` meets its contract. Assumes nothing.
use mathlib.Core.Path.{refl, sym, ◌∙◌}
use Rattle.moves.proofs.Tips.{tip-none, tip-some}
use Rattle.why.specs.InnerSteps.{notes_of}
use Rattle.why.proofs.Note.tip.Goals as goal

pub returns-then-not-is_pointed : goal.returns-then-not-is_pointed
unfolding notes_of
returns-then-not-is_pointed c =
    rw (tip-none c.args.look.boundary c.args.connector (sym c.is_pointed.ensures ∙ c.if-not-is_pointed.true)) refl

pub returns : goal.returns
unfolding notes_of
returns c =
    rw (tip-some c.args.look.boundary c.args.connector (sym c.is_pointed.ensures ∙ c.if-not-is_pointed.false)) (c.step.ensures ∙ rw c.to_tip.ensures)
