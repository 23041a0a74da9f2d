-- `meetings::arc_param_at` meets its contract. Assumes nothing.
use mathlib.Core.Path.{refl}
use Rattle.floats.proofs.Choice.{yes, no, told}
use Rattle.meetings.specs.InnerSteps.{arc_param_at}
use Rattle.meetings.proofs.arc_param_at.Goals as goal

pub traveled_to-requires : goal.traveled_to-requires
traveled_to-requires c = c.requires.start_angle_value

pub returns-then-apart : goal.returns-then-apart
unfolding arc_param_at
returns-then-apart c =
    let off = c.requires.off_ends c.if-apart.true in
    no _ _ _ off.0 (no _ _ _ off.1 (rw (← c.traveled_to.ensures) c.swept_param.ensures))

pub returns-then-fuzzy_eq_eps : goal.returns-then-fuzzy_eq_eps
unfolding arc_param_at
returns-then-fuzzy_eq_eps c = yes _ _ _ (told c.fuzzy_eq_eps.ensures c.if-fuzzy_eq_eps.true) refl

pub returns-then-fuzzy_eq_eps-2 : goal.returns-then-fuzzy_eq_eps-2
unfolding arc_param_at
returns-then-fuzzy_eq_eps-2 c =
    no _ _ _ (told c.fuzzy_eq_eps.ensures c.if-fuzzy_eq_eps.false)
    (yes _ _ _ (told c.fuzzy_eq_eps-2.ensures c.if-fuzzy_eq_eps-2.true) refl)

pub traveled_to-requires-2 : goal.traveled_to-requires-2
traveled_to-requires-2 c = c.requires.start_angle_value

pub returns : goal.returns
unfolding arc_param_at
returns c =
    no _ _ _ (told c.fuzzy_eq_eps.ensures c.if-fuzzy_eq_eps.false)
    (no _ _ _ (told c.fuzzy_eq_eps-2.ensures c.if-fuzzy_eq_eps-2.false) (rw (← c.traveled_to-2.ensures) c.swept_param-2.ensures))
