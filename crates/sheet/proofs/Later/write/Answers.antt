-- `sheet::Later::write` meets its contract. Assumes nothing.
use mathlib.Core.Path.{refl, sym, ◌∙◌}
use borrow.Author.Tests.{not-true, not-false}
use Rattle.floats.proofs.Choice.{yes, no}
use Rattle.angles.specs.Angle.{tan_of, bulge_of}
use Rattle.moves.proofs.Finite.{less_itself, doubt-more}
use Rattle.sheet.specs.InnerSteps.{bulged_at}
use Rattle.sheet.proofs.Bulges.{reached-none, reached-due}
use Rattle.sheet.proofs.Later.write.Goals as goal

pub returns-then-not-self : goal.returns-then-not-self
unfolding bulged_at
returns-then-not-self g c =
    let none = not-true _ c.if-not-self.true in (no _ _ _ none refl, sym (reached-none c.args.self _ none))

pub put_bulge-requires : goal.put_bulge-requires
put_bulge-requires g c =
    c.requires.1 (not-false _ c.if-not-self.false)

pub returns : goal.returns
unfolding bulged_at tan_of bulge_of
returns g c =
    let due = not-false _ c.if-not-self.false in
    let b = c.tan_by_eighth-bulge.ensures in
    let half = c.requires.0 due in
    (yes _ _ _ due (c.put_bulge.ensures ∙ rw (b, half)), rw (reached-due c.args.self _ due, less_itself, doubt-more, b, half))
