-- `walk::Walk::after` meets its contract. Assumes nothing.
use mathlib.Core.Path.{sym, ap, ◌∙◌}
use Prim.Native.Nat.{ℕ}
use Rattle.walk.specs.InnerSteps.{stands}
use Rattle.walk.proofs.Entered.{enters, goes_on}
use Rattle.walk.proofs.Walk.after.Goals as goal

pub returns-then-leading-eq1 : goal.returns-then-leading-eq1
returns-then-leading-eq1 c = (c.entering.ensures.0 ∙ sym (enters _ _ _ _ c.if-leading-eq1.true), c.entering.ensures.1)

pub returns : goal.returns
returns c = (
  ap (λ (n : ℕ). record { walker = stands c.args.self; pen = c.args.pen; leading = n }) c.one_less.ensures ∙ goes_on _ _ _ _ c.if-leading-eq1.false,
  λ fit. record { marked = fit.marked; seen = fit.seen },
)
